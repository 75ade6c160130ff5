-- The invariant of `migration_book::store_grown`.
use mathlib.Core.Path.{◌≡◌}
use lib.ListN.{length}
use Rattle.book_growth.specs.Inner.{Appended}
use Rattle.migration_book.specs.Inner.{new_to}
use Rattle.migration_book.proofs.store_grown.Given as goal

abbrev pub invariant-loop-i : goal.invariant-loop-i
invariant-loop-i l = (length l.file ≡ length l.initial.file) × Appended l.migration.contracts.form l.migration.contracts.count (new_to l.migration.contracts.form l.migration.contracts.file.now l.migration.period l.square l.migration.loads.now l.i) l.initial.file l.file l.place
