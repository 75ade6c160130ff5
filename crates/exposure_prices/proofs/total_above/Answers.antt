-- `total_above`: what of the excesses passed is above 0, added.
use Rattle.std.proofs.Common.{refl, ap, ◌∙◌, ℕ, arith, length}
use Rattle.test_excesses.specs.Inner.{cell_at}
use Rattle.integers.specs.Sums.{max0, sum_to}
use Rattle.exposure_prices.proofs.Cells.{read_excess}
use Rattle.exposure_prices.proofs.Figures.{sum_more}
use Rattle.exposure_prices.proofs.total_above.Goals as goal

pub loop-excess-init : goal.loop-excess-init
unfolding sum_to
loop-excess-init c = (refl, omega arith)

pub loop-excess-preserved : goal.loop-excess-preserved
loop-excess-preserved c =
    let a = c.args in
    let l = c.loop-excess in
    let r = c.above_zero-total in
    let read = read_excess (length a.excesses.cells.now) a.excesses.cells.now a.excesses.sized l.excess-index (omega arith) in (
      sum_more l.excess-index (λ (j : ℕ). max0 (cell_at a.excesses.cells.now j)) l.total r.result l.invariant.0 (r.ensures.0 ∙ ap max0 read.0),
      omega (arith, l.invariant.1, r.ensures.1),
    )
