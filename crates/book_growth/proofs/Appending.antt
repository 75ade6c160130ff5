-- Contracts stored one behind the other, from any place of a book on: none, one, a list more, and the rows of a table one by one.
use mathlib.Core.Path.{◌≡◌, refl, ◌∙◌}
use mathlib.Core.List.{List, [], ◌∷◌, ◌++◌, append_assoc, append-nil}
use Prim.Native.Nat.{ℕ, ◌+◌, ◌≤◌, ◌<◌}
use native.Mathlib.Omega.{arith}
use lib.ListN.{take, drop, length-append}
use Rattle.lists.specs.Lent.{overwrite}
use Rattle.lists.specs.Lists.{list_to}
use Rattle.lists.proofs.Lists.{length-list_to, list_to-more, each-list_to}
use Rattle.tariff.specs.declared.contracts.Contract.{Contract}
use Rattle.layouts.specs.declared.forms.Form.{Form}
use Rattle.layouts.specs.declared.forms.Form.TheVariants.{Narrow, Wide}
use Rattle.layouts.specs.Forms.{end_width, record_bytes}
use Rattle.layouts.specs.BookFile.{book_bytes_of, book_file}
use Rattle.layouts.specs.BookTable.{ContractFits}
use Rattle.book_rules.specs.Inner.{header_bytes, contract_bytes}
use Rattle.book_rules.proofs.Making.{front-begins, front-more, front_ends}
use Rattle.book_growth.specs.Inner.{Appended}

-- with room for more there is room for fewer
pub room-fewer : (f : Form) (i m size : ℕ) → i ≤ m → book_bytes_of f m ≤ size → book_bytes_of f i ≤ size
room-fewer Narrow i m size h room = omega arith
room-fewer Wide i m size h room = omega arith

pub none-appended : (f : Form) (at : ℕ) (entry : List ℕ) → Appended f at [] entry entry at
none-appended f at entry = record { place = omega arith; front = λ m file cs long is. rw append-nil is }

module _ (f : Form) (at : ℕ) (xs : List Contract) (entry middle : List ℕ) (place : ℕ) (before : Appended f at xs entry middle place) where
  pub more_appended : (ys : List Contract) (exit : List ℕ) (next : ℕ) → Appended f place ys middle exit next → Appended f at (xs ++ ys) entry exit next
  more_appended ys exit next behind =
      record {
        place = omega (arith, before.place, behind.place, length-append xs ys);
        front = λ m file cs long is.
            rw (← append_assoc cs xs ys)
            (behind.front m file (cs ++ xs) (length-append cs xs ∙ omega (arith, before.place)) (before.front m file cs long is));
      }

pub one_appended : (f : Form) (at : ℕ) (c : Contract) (entry exit : List ℕ)
    → exit ≡ take (book_bytes_of f at) entry ++ contract_bytes f c ++ drop (book_bytes_of f at + record_bytes f) entry → Appended f at (c ∷ []) entry exit (at + 1)
one_appended f at c entry exit stored = record { place = refl; front = λ m file cs long is. front-more f m file cs c at entry exit long is stored }

-- ---- the rows of a table: contract i is row i

module _ (f : Form) (at : ℕ) (row : ℕ → Contract) (entry : List ℕ) where
  pub no_rows : (place : ℕ) → place ≡ at → Appended f at (list_to 0 row) entry entry place
  unfolding list_to
  no_rows place is = rw is (none-appended f at entry)

  -- one more, stored at the next place
  pub row_appended : (middle exit : List ℕ) (i place next : ℕ) → next ≡ place + 1 → Appended f at (list_to i row) entry middle place
      → exit ≡ take (book_bytes_of f place) middle ++ contract_bytes f (row i) ++ drop (book_bytes_of f place + record_bytes f) middle
      → Appended f at (list_to (i + 1) row) entry exit next
  row_appended middle exit i place next is before stored =
      rw (is, list_to-more i row)
      (more_appended f at (list_to i row) entry middle place before (row i ∷ []) exit (place + 1) (one_appended f place (row i) middle exit stored))

-- behind a header they are the book's file
pub rows_written : (f : Form) (m : ℕ) (row : ℕ → Contract) (place entry exit : List ℕ) (i : ℕ) → entry ≡ overwrite (header_bytes f m) place
    → Appended f 0 (list_to i row) entry exit i → i ≡ m → ((i : ℕ) → i < m → ContractFits (end_width f) (row i)) → exit ≡ overwrite (book_file f (list_to m row)) place
rows_written f m row place entry exit i header stored last fits =
    front_ends f m place (list_to m row) exit (length-list_to m row) (each-list_to (ContractFits (end_width f)) m row fits)
    (rw last at (stored.front m place [] refl (front-begins f m place entry header)))
