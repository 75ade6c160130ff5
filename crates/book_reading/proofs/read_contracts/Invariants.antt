-- The invariant of `book_reading::read_contracts`.
use mathlib.Core.Path.{◌≡◌}
use mathlib.Core.List.{flat_map}
use lib.ListN.{length}
use Rattle.lists.specs.Lists.{list_to}
use Rattle.lists.specs.Lent.{overwrite}
use Rattle.layouts.specs.BookFile.{contract_in}
use Rattle.layouts.specs.BookTable.{cells_of}
use Rattle.book_reading.proofs.read_contracts.Given as goal

abbrev pub invariant-loop-i : goal.invariant-loop-i
invariant-loop-i l = (length l.book ≡ length l.initial.book) × (l.book ≡ overwrite (flat_map cells_of (list_to l.i (contract_in l.contracts.form l.contracts.file.now))) l.initial.book)
