-- The invariant of `migration_transfers::net_square`.
use Rattle.migration_transfers.specs.Squares.{Nets}
use Rattle.migration_transfers.specs.Inner.{Shaped, migration_rows_to}
use Rattle.migration_transfers.proofs.net_square.Given as goal

abbrev pub invariant-loop-i : goal.invariant-loop-i
invariant-loop-i l = Nets (migration_rows_to l.i l.lists.customers.now l.lists.rates.now l.lists.olds.now l.lists.news.now) l.square × Shaped l.square
