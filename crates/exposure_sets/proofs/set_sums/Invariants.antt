-- The invariant of `exposure_sets::set_sums`.
use Rattle.exposure_sets.specs.Inner.{cell_in_of}
use Rattle.exposure_sets.proofs.Laws.{Summed}
use Rattle.exposure_sets.proofs.set_sums.Given as goal

abbrev pub invariant-loop-t : goal.invariant-loop-t
invariant-loop-t l = Summed (cell_in_of l.figures) l.sums l.t
