-- Document 02, paper 14: "with each contract's cents moving with it", of the whole list of contracts with their cells, over what `settle_hour` and its C function
-- promise. Statements only.
use mathlib.Core.List.{List, Perm}
use Rattle.std.specs.Prelude.{ℕ, get_or, ℤ, pos}
use Rattle.lists.specs.Lists.{list_to}
use Rattle.lists.specs.Lent.{Lent, after}
use Rattle.tariff.specs.declared.contracts.Contract.{Contract}
use Rattle.layouts.specs.BookFile.{contract_count_in, contract_at, book_in}
use Rattle.hour_rules.specs.SettleHour.{SettleAnswer}
use Rattle.hour_rules.specs.SettleHour.{HourCall}
use Rattle.order_rules.specs.Reordering.{Reordered}
use Rattle.order_calls.specs.Entries.{hour_on, HourSettled}
use Rattle.order_calls.specs.ForC.{HourFigures, SettledForC}

-- a contract, and what stands in its two cells
pub record SettledRow : Type 0 where
  pub contract : Contract
  pub cents : ℤ
  pub set : ℕ

-- each contract of a book, in the book's order, with the cells of its place
unfoldable pub rows_left_of : List ℕ → List ℤ → List ℕ → List SettledRow
rows_left_of book cents sets = list_to (contract_count_in book) (λ i. record { contract = contract_at book i; cents = get_or cents i (pos 0); set = get_or sets i 0 })

-- THE STATEMENTS. s is the other book, and each second place that of the call on it.
pub record RowsMove : Type 0 where
  pub settled_rows_reordered : (q : HourCall) (s : List ℕ) (a b : SettleAnswer) (cents cents₂ : Lent (List ℤ)) (sets sets₂ : Lent (List ℕ))
      → HourSettled q a cents sets → HourSettled (hour_on q s) b cents₂ sets₂ → Reordered (book_in q.book) (book_in s)
      → Perm (rows_left_of q.book (after cents) (after sets)) (rows_left_of s (after cents₂) (after sets₂))
  pub crr_settled_rows_reordered : (q : HourCall) (s : List ℕ) (m n : ℕ) (c d : HourFigures) → SettledForC q m c → SettledForC (hour_on q s) n d
      → Reordered (book_in q.book) (book_in s) → Perm (rows_left_of q.book (after c.cents) (after c.sets)) (rows_left_of s (after d.cents) (after d.sets))
