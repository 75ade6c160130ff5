-- The invariant of `exposure_prices::fill_prices`.
use Rattle.std.proofs.Common.{length}
use Rattle.exposure_prices.specs.Inner.{chosen_in}
use Rattle.exposure_prices.proofs.Cells.{Filling}
use Rattle.exposure_prices.proofs.fill_prices.Given as goal

abbrev pub invariant-loop-k : goal.invariant-loop-k
invariant-loop-k l = Filling (length l.excesses.cells.now) (chosen_in l.excesses.cells.now l.chosen.start l.chosen.end) l.k-counter l.price-items
