-- The invariant of `exposure_sets::fill_spreads`.
use Rattle.exposure_sets.specs.Inner.{Filled}
use Rattle.exposure_sets.specs.Listings.{raw_by}
use Rattle.exposure_sets.proofs.fill_spreads.Given as goal

abbrev pub invariant-loop-t : goal.invariant-loop-t
invariant-loop-t l = Filled l.t (raw_by l.listing l.c) l.initial.figures l.figures
