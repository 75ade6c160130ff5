-- The invariant of `migration_pairs::store_pairs`.
use mathlib.Core.Path.{◌≡◌}
use lib.ListN.{length}
use Rattle.migration_rules.specs.ContractRules.{pairs_to}
use Rattle.migration_transfers.specs.Squares.{row_losses}
use Rattle.book_growth.specs.Inner.{Appended}
use Rattle.migration_pairs.proofs.store_pairs.Given as goal

abbrev pub invariant-loop-j : goal.invariant-loop-j
invariant-loop-j l = (length l.file ≡ length l.initial.file) × Appended l.form l.at (pairs_to (row_losses l.base.row.now) l.base.loads.now l.base.contract l.j) l.initial.file l.file l.place
