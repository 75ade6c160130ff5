-- The invariant of `exposure_prices::fill_over`.
use Rattle.std.proofs.Common.{◌≡◌, ◌≤◌, length}
use Rattle.lists.specs.Sets.{count_of}
use Rattle.exposure_prices.specs.Inner.{above_in, Listed}
use Rattle.exposure_prices.proofs.fill_over.Given as goal

abbrev pub invariant-loop-k : goal.invariant-loop-k
invariant-loop-k l = (l.count ≤ l.k) × (l.count ≡ count_of l.k (above_in l.excesses.cells.now)) × (length l.over ≡ 64) × Listed l.k (above_in l.excesses.cells.now) l.over
