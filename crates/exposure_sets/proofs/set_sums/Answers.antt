-- `set_sums`: the sums of the places passed.
use Rattle.std.proofs.Common.{◌≡◌, ◌∙◌, arith, length, pos}
use Rattle.std.proofs.Math.ListN.{length-set}
use Rattle.std.proofs.Math.Seq.{get_or-set_same}
use Rattle.integers.proofs.Machine.{back}
use Rattle.exposure_sets.specs.Inner.{cell_in_of}
use Rattle.exposure_sets.proofs.Laws.{summed-start, room-to_grow, summed-next}
use Rattle.exposure_sets.proofs.set_sums.Goals as goal

pub loop-t-init : goal.loop-t-init
loop-t-init c =
    let cells = c.args.sums.now in
    let long : length cells ≡ 1024 = omega arith in
    summed-start _ _ (length-set cells 0 (pos 0) ∙ long) (get_or-set_same cells 0 (pos 0) (pos 0) (omega (arith, long)))

pub grow-requires : goal.grow-requires
grow-requires c =
    let l = c.loop-t in
    room-to_grow (length c.args.figures.now) (cell_in_of c.args.figures.now) l.sums _ l.t c.set_count.ensures.0 l.invariant (omega arith) c.requires.0 c.requires.1 _
    (back (cell_in_of c.args.figures.now l.t) (omega (arith, c.requires.1 l.t (omega arith))))

pub loop-t-preserved : goal.loop-t-preserved
loop-t-preserved c =
    let l = c.loop-t in
    summed-next (length c.args.figures.now) (cell_in_of c.args.figures.now) l.sums _ l.t c.set_count.ensures.0 l.invariant (omega arith) c.requires.0 _ _
    (back (cell_in_of c.args.figures.now l.t) (omega (arith, c.requires.1 l.t (omega arith)))) c.grow.ensures
