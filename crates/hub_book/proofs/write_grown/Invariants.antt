-- The invariant of `hub_book::write_grown`.
use mathlib.Core.Path.{◌≡◌}
use Prim.Native.Nat.{◌+◌}
use lib.ListN.{length}
use Rattle.lists.specs.Lists.{list_to}
use Rattle.book_growth.specs.Inner.{Appended}
use Rattle.hub_book.specs.Inner.{row_contract}
use Rattle.hub_book.proofs.write_grown.Given as goal

abbrev pub invariant-loop-i : goal.invariant-loop-i
invariant-loop-i l = (length l.file ≡ length l.initial.file) × Appended l.contracts.form l.contracts.count (list_to l.i (row_contract l.terms l.sources l.quantities)) l.initial.file l.file (l.contracts.count + l.i)
