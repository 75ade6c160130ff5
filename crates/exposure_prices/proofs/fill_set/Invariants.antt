-- The invariant of `exposure_prices::fill_set`.
use Rattle.std.proofs.Common.{◌≡◌, ◌/◌, ◌^◌, length}
use Rattle.lists.specs.Sets.{count_of}
use Rattle.exposure_prices.specs.Inner.{above_in, set_in}
use Rattle.exposure_prices.proofs.Cells.{Filling}
use Rattle.exposure_prices.proofs.fill_set.Given as goal

abbrev pub invariant-loop-k : goal.invariant-loop-k
invariant-loop-k l = Filling (length l.excesses.cells.now) (set_in l.excesses.cells.now l.set) l.k l.price-items × (l.left ≡ l.set / 2 ^ count_of l.k (above_in l.excesses.cells.now))
