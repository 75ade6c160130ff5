-- The invariant of `remap_book::write_moved`.
use mathlib.Core.Path.{◌≡◌}
use mathlib.Core.List.{List}
use Prim.Native.Nat.{ℕ}
use lib.ListN.{length}
use Rattle.lists.specs.Lists.{list_to}
use Rattle.tariff.specs.declared.contracts.Contract.{Contract}
use Rattle.layouts.specs.BookFile.{contract_in}
use Rattle.book_bits.specs.declared.contracts.Contracts.{Contracts}
use Rattle.remap_rules.specs.Inner.{moved_by}
use Rattle.book_growth.specs.Inner.{Appended}
use Rattle.remap_book.proofs.write_moved.Given as goal

abbrev pub moved_at : List ℕ → Contracts → ℕ → Contract
moved_at ends cs j = moved_by ends (contract_in cs.form cs.file.now j)

abbrev pub invariant-loop-i : goal.invariant-loop-i
invariant-loop-i l = (length l.file ≡ length l.initial.file) × Appended l.contracts.form 0 (list_to l.i (moved_at l.ends l.contracts)) l.initial.file l.file l.i
