-- The invariant of `canonical_book::write_rows`.
use mathlib.Core.Path.{◌≡◌}
use mathlib.Core.List.{List}
use Prim.Native.Nat.{ℕ}
use lib.ListN.{length, get_or}
use Rattle.lists.specs.Lists.{list_to}
use Rattle.tariff.specs.declared.contracts.Contract.{Contract}
use Rattle.layouts.specs.Inner.{contract_for}
use Rattle.book_growth.specs.Inner.{Appended}
use Rattle.canonical_book.proofs.write_rows.Given as goal

abbrev pub row_at : List ℕ → ℕ → Contract
row_at rows j = contract_for 12 (get_or rows j 0)

abbrev pub invariant-loop-i : goal.invariant-loop-i
invariant-loop-i l = (length l.file ≡ length l.initial.file) × Appended l.form 0 (list_to l.i (row_at l.rows)) l.initial.file l.file l.i
