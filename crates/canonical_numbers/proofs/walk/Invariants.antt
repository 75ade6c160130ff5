-- The invariant of `canonical_numbers::walk`.
use Rattle.canonical_numbers.proofs.Turning.{Walking}
use Rattle.canonical_numbers.proofs.walk.Given as goal

abbrev pub invariant-loop-i : goal.invariant-loop-i
invariant-loop-i l = Walking l.initial.cells l.cells l.row l.rows l.i
