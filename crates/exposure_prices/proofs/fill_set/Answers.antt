-- `fill_set`: the cells passed hold the set's prices, and the number is halved at each overloaded constraint.
use Rattle.std.proofs.Common.{ap, ◌∙◌, cond, ◌&&◌, ℕ, ◌/◌, ◌%◌, arith, eqb, length, ℤ, pos}
use Rattle.std.specs.Int.Signed.{lt_z}
use Rattle.tariff.specs.Units.{max_price}
use Rattle.exposure_prices.specs.Inner.{above_in, set_in}
use Rattle.exposure_prices.proofs.Cells.{read_excess, fill_start, fill_next, fill_end}
use Rattle.exposure_prices.proofs.Counting.{left-start, left-next}
use Rattle.exposure_prices.proofs.fill_set.Goals as goal

pub loop-k-init : goal.loop-k-init
loop-k-init c = (fill_start _ _ _ c.requires, left-start _ _)

pub loop-k-preserved : goal.loop-k-preserved
loop-k-preserved c =
    let a = c.args in
    let l = c.loop-k in
    let above = above_in a.excesses.cells.now in
    let read = read_excess (length a.excesses.cells.now) a.excesses.cells.now a.excesses.sized l.k (omega arith) in
    let price = c.price_at.ensures ∙ ap (λ (z : ℤ). cond (lt_z (pos 0) z && eqb (l.left % 2) 1) max_price 0) read.0
    ∙ ap (λ (m : ℕ). cond (above l.k && eqb (m % 2) 1) max_price 0) l.invariant.1 in (
      fill_next (length a.excesses.cells.now) (set_in a.excesses.cells.now a.set) l.k l.price-items _ (omega arith) price l.invariant.0,
      left-next a.set l.k above l.left c.set_left-left.result l.invariant.1
          (c.set_left-left.ensures ∙ ap (λ (z : ℤ). cond (lt_z (pos 0) z) (l.left / 2) l.left) read.0),
    )

pub returns : goal.returns
returns c =
    let a = c.args in
    fill_end (length a.excesses.cells.now) (set_in a.excesses.cells.now a.set) _ _ a.prices.now (omega arith) c.loop-k.invariant.0
