-- `largest_cell`: of the places passed, the one of the largest figure.
use Rattle.std.proofs.Common.{refl, arith}
use Rattle.std.specs.Int.Signed.{lt_z}
use Rattle.test_excesses.specs.Inner.{cell_at}
use Rattle.exposure_rules.specs.Exposure.{largest_of}
use Rattle.exposure_prices.proofs.Figures.{larger_more, at_most_one}
use Rattle.exposure_prices.proofs.largest_cell.Goals as goal

pub loop-k-init : goal.loop-k-init
unfolding largest_of
loop-k-init c = (omega arith, refl)

pub loop-k-preserved : goal.loop-k-preserved
loop-k-preserved c =
    let l = c.loop-k in
    let r = c.larger-largest in
    let cells = c.args.cells.now in (
      at_most_one (lt_z (cell_at cells l.largest) (cell_at cells l.k)) l.k l.largest r.result l.invariant.0 r.ensures,
      larger_more l.k (cell_at cells) l.largest r.result l.invariant.1 r.ensures,
    )
