-- The invariant of `book_writing::write_contracts`.
use mathlib.Core.Path.{◌≡◌}
use lib.ListN.{length}
use Rattle.layouts.specs.BookTable.{rows_in}
use Rattle.book_growth.specs.Inner.{Appended}
use Rattle.book_writing.proofs.write_contracts.Given as goal

abbrev pub invariant-loop-i : goal.invariant-loop-i
invariant-loop-i l = (length l.file ≡ length l.initial.file) × Appended l.form 0 (rows_in l.i l.cells) l.initial.file l.file l.i
