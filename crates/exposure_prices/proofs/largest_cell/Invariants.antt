-- The invariant of `exposure_prices::largest_cell`.
use Rattle.std.proofs.Common.{◌≡◌, ◌≤◌}
use Rattle.test_excesses.specs.Inner.{cell_at}
use Rattle.exposure_rules.specs.Exposure.{largest_of}
use Rattle.exposure_prices.proofs.largest_cell.Given as goal

abbrev pub invariant-loop-k : goal.invariant-loop-k
invariant-loop-k l = (l.largest ≤ l.k) × (l.largest ≡ largest_of l.k (cell_at l.cells))
