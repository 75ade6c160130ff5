-- The invariant of `exposure_figures::rent`.
use Rattle.std.proofs.Common.{◌≡◌, ℕ, pos, length}
use Rattle.integers.specs.Sums.{sum_to}
use Rattle.exposure_figures.specs.Inner.{rent_in, rent_of, RentBounded}
use Rattle.exposure_figures.proofs.rent.Given as goal

abbrev pub invariant-loop-limit : goal.invariant-loop-limit
invariant-loop-limit l = (pos (rent_of l.total) ≡ sum_to (length l.yielded) (λ (j : ℕ). pos (rent_in l.limits l.process l.prices j))) × RentBounded (length l.yielded) l.total
