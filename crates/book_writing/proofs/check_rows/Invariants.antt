-- The invariant of `book_writing::check_rows`.
use mathlib.Core.Path.{◌≡◌}
use Rattle.tariff.specs.Refusals.{first, passed}
use Rattle.book_rules.specs.BookChecks.{checks_to}
use Rattle.book_rules.specs.WriteBook.{row_checks}
use Rattle.book_writing.proofs.check_rows.Given as goal

abbrev pub invariant-loop-i : goal.invariant-loop-i
invariant-loop-i l = (first (checks_to l.i (row_checks l.below l.cells)) ≡ passed)
