-- `fill_spreads`: the figures of the places passed.
use Rattle.std.proofs.Common.{sym, ap₂, ◌∙◌, ℕ, arith, lit<, get_or, w64, to_z, of_z, ℤ, pos, ◌-ℤ◌, ◌*ℤ◌}
use Rattle.integers.proofs.Machine.{back}
use Rattle.tariff.specs.declared.contracts.Kind.TheVariants.{Obligation}
use Rattle.tariff.specs.Units.{max_factor}
use Rattle.test_rules.proofs.Flowing.{kept-sized, part_small}
use Rattle.exposure_sets.specs.Inner.{raw_in}
use Rattle.exposure_sets.proofs.Laws.{cell_of, filled-kept}
use Rattle.exposure_sets.proofs.fill_spreads.Goals as goal

pub loop-t-preserved : goal.loop-t-preserved
loop-t-preserved c =
    let a = c.args in
    let l = c.loop-t in
    let n = a.listing.tested.grid.factors.nodes in
    let m = a.listing.tested.grid.factors.constraints in
    let fs = a.listing.tested.grid.factors.cells.now in
    let own = c.requires.0 in
    let k = get_or a.listing.over.now l.t 0 in
    let b = a.listing.chosen.each l.t (omega arith) in
    let from = c.row-source.ensures in
    let to = c.row-sink.ensures in
    let source = get_or c.row-source.result.now k (pos 0) in
    let sink = get_or c.row-sink.result.now k (pos 0) in
    let y = c.flow.ensures
    ∙ ap₂ (λ (u v : ℤ). (u -ℤ v) *ℤ pos a.c.quantity.0)
    (back source (omega (arith, from.sized k b)) ∙ from.cell k b ∙ sym (cell_of n m fs a.c.source k own.source-below b))
    (back sink (omega (arith, to.sized k b)) ∙ to.cell k b ∙ sym (cell_of n m fs a.c.sink k own.sink-below b)) in
    let small = part_small c.flow.result.0 (to_z w64 (of_z w64 source)) (to_z w64 (of_z w64 sink)) Obligation a.c.quantity.0 c.flow.ensures
    (kept-sized source max_factor (lit< tt) (from.sized k b)) (kept-sized sink max_factor (lit< tt) (to.sized k b)) own.quantity-sized in
    let raw : ℕ → ℤ = λ t. raw_in m fs a.c (get_or a.listing.over.now t 0) in
    filled-kept raw l.t c.flow.result.0 a.figures.now l.figures (omega (arith, l.auto.figures, c.requires.1)) y (omega (arith, small)) l.invariant
