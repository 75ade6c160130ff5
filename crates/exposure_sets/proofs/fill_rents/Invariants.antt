-- The invariant of `exposure_sets::fill_rents`.
use Rattle.exposure_sets.specs.Inner.{Filled}
use Rattle.exposure_sets.specs.Listings.{due_by}
use Rattle.exposure_sets.proofs.fill_rents.Given as goal

abbrev pub invariant-loop-t : goal.invariant-loop-t
invariant-loop-t l = Filled l.t (due_by l.listing) l.initial.figures l.figures
