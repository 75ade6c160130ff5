-- The invariant of `exposure_prices::total_above`.
use Rattle.std.proofs.Common.{◌≡◌, ℕ, ◌*◌, ◌≤◌, pos}
use Rattle.test_excesses.specs.Inner.{cell_at}
use Rattle.exposure_prices.specs.Inner.{max_excess}
use Rattle.integers.specs.Sums.{max0, sum_to}
use Rattle.exposure_prices.proofs.total_above.Given as goal

abbrev pub invariant-loop-excess : goal.invariant-loop-excess
invariant-loop-excess l = (pos l.total ≡ sum_to l.excess-index (λ (j : ℕ). max0 (cell_at l.excesses.cells.now j))) × (l.total ≤ max_excess * l.excess-index)
