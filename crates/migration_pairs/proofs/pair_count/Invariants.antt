-- The invariant of `migration_pairs::pair_count`.
use mathlib.Core.Path.{◌≡◌}
use lib.ListN.{length}
use Rattle.migration_rules.specs.ContractRules.{pairs_to}
use Rattle.migration_transfers.specs.Squares.{row_losses}
use Rattle.migration_pairs.proofs.pair_count.Given as goal

abbrev pub invariant-loop-net : goal.invariant-loop-net
invariant-loop-net l = (l.count ≡ length (pairs_to (row_losses l.fn.base.row.now) l.fn.base.loads.now l.fn.base.contract l.net-index))
