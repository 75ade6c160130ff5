-- `fill_prices`: the cells passed hold the prices passed.
use Rattle.std.proofs.Common.{◌≡◌, Bool, to_z, of_z, w64, get_or, ap, ◌∙◌, cond, ◌&&◌, arith, leb, ltb, length, ℤ, pos}
use Rattle.std.specs.Int.Signed.{lt_z}
use Rattle.tariff.specs.Units.{max_price}
use Rattle.exposure_prices.specs.Inner.{chosen_in}
use Rattle.exposure_prices.proofs.Cells.{read_excess, fill_next, fill_end}
use Rattle.exposure_prices.proofs.Chosen.{chosen_told}
use Rattle.exposure_prices.proofs.fill_prices.Goals as goal

pub loop-k-preserved : goal.loop-k-preserved
loop-k-preserved c =
    let a = c.args in
    let l = c.loop-k in
    let read = read_excess (length a.excesses.cells.now) a.excesses.cells.now a.excesses.sized l.k-counter (omega arith) in
    let in_range : c.contains.result ≡ (leb a.chosen.start l.k-counter && ltb l.k-counter a.chosen.end) = c.contains.ensures.value ∙ chosen_told a.chosen.start a.chosen.end l.k-counter in
    let price = c.price_at.ensures ∙ ap (λ (z : Bool). cond (lt_z (pos 0) (to_z w64 (of_z w64 (get_or a.excesses.cells.now l.k-counter (pos 0)))) && z) max_price 0) in_range ∙ ap (λ (z : ℤ). cond (lt_z (pos 0) z && (leb a.chosen.start l.k-counter && ltb l.k-counter a.chosen.end)) max_price 0) read.0 in
    fill_next (length a.excesses.cells.now) (chosen_in a.excesses.cells.now a.chosen.start a.chosen.end) l.k-counter l.price-items _ (omega arith) price l.invariant

pub returns : goal.returns
returns c =
    let a = c.args in
    fill_end (length a.excesses.cells.now) (chosen_in a.excesses.cells.now a.chosen.start a.chosen.end) _ _ a.prices.now (omega arith) c.loop-k.invariant
