-- A book's contracts one after the other, and what follows them.
use mathlib.Core.Path.{◌≡◌, refl, ap, ap₂, ◌∙◌}
use mathlib.Core.Logic.{⊎_elim}
use mathlib.Core.List.{List, [], ◌++◌, flat_map}
use Prim.Native.Nat.{ℕ, zero, suc, ◌+◌, ◌≤◌}
use native.Mathlib.Nat.{eq-or-lt_of_le, le_trans}
use native.Mathlib.Numerals.{add-one}
use native.Mathlib.Omega.{arith}
use lib.ListN.{length, length-append}
use Rattle.lists.specs.Lists.{list_to}
use Rattle.lists.proofs.Lists.{flat_map_more}
use Rattle.tariff.specs.declared.contracts.Period.{Period}
use Rattle.tariff.specs.declared.units.Transfer.{Transfer}
use Rattle.layouts.specs.declared.forms.Form.{Form}
use Rattle.layouts.specs.BookFile.{contract_in, book_in}
use Rattle.migration_rules.specs.ContractRules.{new_from}
use Rattle.migration_transfers.specs.Squares.{lost_in}
use Rattle.migration_book.specs.Inner.{Readable, contracts_to, new_to}

-- the contracts of a book that can be read are the book's
pub contracts-of : (f : Form) (m : ℕ) (book : List ℕ) → Readable f m book → book_in book ≡ contracts_to f book m
contracts-of f m book ok = ap₂ (λ (g : Form) (n : ℕ). list_to n (contract_in g book)) ok.whole.form-is ok.count-is

module _ (f : Form) (book : List ℕ) (t : Period) (square : List (List Transfer)) (loads : List ℕ) where
  pub none-new : new_to f book t square loads 0 ≡ []
  unfolding list_to flat_map
  none-new = refl

  -- one base contract more
  pub new-more : (i : ℕ) → new_to f book t square loads (i + 1) ≡ new_to f book t square loads i ++ new_from (lost_in square) loads t (contract_in f book i)
  new-more i = flat_map_more (new_from (lost_in square) loads t) i (contract_in f book)

  pub length_more : (i : ℕ) → length (new_to f book t square loads (i + 1)) ≡ length (new_to f book t square loads i)
      + length (new_from (lost_in square) loads t (contract_in f book i))
  length_more i = ap length (new-more i) ∙ length-append (new_to f book t square loads i) (new_from (lost_in square) loads t (contract_in f book i))

  pub new-grow : (i m : ℕ) → i ≤ m → length (new_to f book t square loads i) ≤ length (new_to f book t square loads m)
  new-grow zero zero h = omega arith
  new-grow (suc i) zero h = absurd (omega arith)
  new-grow i (suc m) h = ⊎_elim (λ e. rw e (omega arith)) (λ l. le_trans (new-grow i m (omega arith)) (rw (← add-one m) (omega (arith, length_more m))))
      (eq-or-lt_of_le h)
