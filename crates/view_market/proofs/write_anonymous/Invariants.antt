-- The invariant of `view_market::write_anonymous`.
use mathlib.Core.Path.{◌≡◌}
use Prim.Native.Nat.{ℕ}
use lib.ListN.{length}
use Rattle.lists.specs.Lists.{list_to}
use Rattle.tariff.specs.declared.contracts.Contract.{Contract}
use Rattle.layouts.specs.BookFile.{contract_in}
use Rattle.book_bits.specs.declared.contracts.Contracts.{Contracts}
use Rattle.view_rules.specs.Views.{anonymous}
use Rattle.book_growth.specs.Inner.{Appended}
use Rattle.view_market.proofs.write_anonymous.Given as goal

abbrev pub row_at : Contracts → ℕ → Contract
row_at cs j = anonymous (contract_in cs.form cs.file.now j)

abbrev pub invariant-loop-i : goal.invariant-loop-i
invariant-loop-i l = (length l.file ≡ length l.initial.file) × Appended l.contracts.form 0 (list_to l.i (row_at l.contracts)) l.initial.file l.file l.i
