-- The rows left are a function of each contract alone, so they are reordered with the contracts.
use mathlib.Core.Path.{◌≡◌, sym, subst₂, ◌∙◌}
use mathlib.Core.List.Perm
use mathlib.Core.List.{List, map, Perm}
use Prim.Native.Nat.{ℕ}
use lib.IntN.{ℤ}
use Rattle.lists.specs.Lent.{Lent, after}
use Rattle.lists.proofs.Lists.{list_to-cong, map-list_to}
use Rattle.tariff.specs.declared.contracts.Contract.{Contract}
use Rattle.layouts.specs.BookFile.{contract_count_in, contract_at, book_in}
use Rattle.hour_rules.specs.SettleHour.{HourCall, hour_factors, hour_prices, hour_period, cents_of, priced_of}
use Rattle.order_rules.specs.Reordering.{Reordered}
use Rattle.order_calls.specs.Entries.{hour_on}
use Rattle.order_calls.specs.Moving.{SettledRow, rows_left_of, RowsMove}
use Rattle.order_calls.proofs.Answers.{CellsGiven, cents-is, set_is}
use Rattle.order_calls.proofs.ForC.{cells-given}

-- what a call leaves for a contract
row_of : HourCall → Contract → SettledRow
row_of q c = record { contract = c; cents = cents_of (hour_factors q) (hour_prices q) (hour_period q) c; set = priced_of (hour_factors q) (hour_prices q) (hour_period q) c }

rows_are : (q : HourCall) (cents : Lent (List ℤ)) (sets : Lent (List ℕ)) → CellsGiven q cents sets → rows_left_of q.book (after cents) (after sets) ≡ map (row_of q) (book_in q.book)
unfolding rows_left_of row_of
rows_are q cents sets g =
    list_to-cong (contract_count_in q.book) _ (λ i. row_of q (contract_at q.book i)) (λ i l k.
    record {
      contract = contract_at q.book i;
      cents = cents-is q cents sets g.passed g.cents-given i l k;
      set = set_is q cents sets g.passed g.sets-given i l k;
    })
    ∙ sym (map-list_to (contract_count_in q.book) (contract_at q.book) (row_of q))

rows-move : (q : HourCall) (s : List ℕ) (cents cents₂ : Lent (List ℤ)) (sets sets₂ : Lent (List ℕ)) → CellsGiven q cents sets → CellsGiven (hour_on q s) cents₂ sets₂
    → Reordered (book_in q.book) (book_in s) → Perm (rows_left_of q.book (after cents) (after sets)) (rows_left_of s (after cents₂) (after sets₂))
unfolding row_of
rows-move q s cents cents₂ sets sets₂ g h p =
    subst₂ (λ (xs ys : List SettledRow). Perm xs ys) (sym (rows_are q cents sets g)) (sym (rows_are (hour_on q s) cents₂ sets₂ h)) (Perm.map (row_of q) p)

pub rows-moved : RowsMove
rows-moved =
    record {
      settled_rows_reordered = λ q s a b cents cents₂ sets sets₂ h l.
          rows-move q s cents cents₂ sets sets₂
          (record { passed = h.accepted; cents-given = h.promised.cents-settled; sets-given = h.promised.sets-handed_on })
          (record { passed = l.accepted; cents-given = l.promised.cents-settled; sets-given = l.promised.sets-handed_on });
      crr_settled_rows_reordered = λ q s m n c d h l.
          rows-move q s c.cents d.cents c.sets d.sets (cells-given q m c h) (cells-given (hour_on q s) n d l);
    }
