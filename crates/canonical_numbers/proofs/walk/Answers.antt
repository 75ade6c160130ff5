-- `walk`: the rows that are out and the walk from the pending one on are the whole walk.
use native.Mathlib.Omega.{arith}
use Rattle.canonical_numbers.proofs.Turning.{walking_begins, read_sized, row_out, row_kept, walk_ends}
use Rattle.canonical_numbers.proofs.walk.Goals.{in-Some, in_default}
use Rattle.canonical_numbers.proofs.walk.Goals as goal

pub loop-i-init : goal.loop-i-init
loop-i-init c =
    let s = c in
    walking_begins s.args.cells.now s.requires.1 s.requires.0

pub next_step-s-requires : goal.next_step-s-requires
next_step-s-requires c =
    let l = c.loop-i in
    let s = c in
    (l.invariant.sized, read_sized s.args.cells.now s.requires.1 l.cells l.row l.rows l.i l.invariant (omega arith))

pub loop-i-preserved : goal.loop-i-preserved
loop-i-preserved c =
    let a = c.args in
    let l = c.loop-i in
    let step = c.next_step-s in
    elim c.match-s.branch [
      | in-Some w ↦ rw (w.cells-is, w.rows-is) (row_out a.cells.now c.requires.1 l.cells l.row l.rows l.i l.invariant step.result (omega arith) step.ensures _ w.in-Some.is)
      | in_default w ↦ rw (w.cells-is, w.rows-is) (row_kept a.cells.now c.requires.1 l.cells l.row l.rows l.i l.invariant step.result (omega arith) step.ensures w.in_default.is)
    ]

pub returns : goal.returns
returns c =
    let l = c.loop-i in
    let s = c in
    (walk_ends s.args.cells.now s.requires.1 l.cells l.row l.rows l.i l.invariant (omega (arith, l.invariant.within)), omega (arith, l.invariant.few, l.invariant.within))
