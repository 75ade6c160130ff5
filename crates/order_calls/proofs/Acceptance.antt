-- A book's contracts pass their checks one by one, which order does not change.
use mathlib.Core.Path.{◌≡◌, refl}
use mathlib.Core.Logic.{∥∥₁_elim}
use mathlib.Core.Bool.{Bool, true, false, Bool-set}
use mathlib.Core.List.{List, [], ◌∷◌, Perm}
use Prim.Native.Nat.{ℕ, ◌≤◌}
use native.Mathlib.Bridge.{le_prop}
use native.Mathlib.Omega.{arith}
use lib.ListN.{length}
use Rattle.lists.specs.Lists.{Each}
use Rattle.lists.proofs.Lists.{each-list_to}
use Rattle.tariff.specs.declared.contracts.Contract.{Contract}
use Rattle.tariff.specs.Refusals.{Checked, passed}
use Rattle.std.specs.Prelude.{Ok, Err}
use Rattle.tariff.specs.Units.{max_contracts}
use Rattle.tariff.specs.Refusals.{first, decided}
use Rattle.layouts.specs.declared.forms.Form.{Form}
use Rattle.layouts.specs.Forms.{end_width}
use Rattle.layouts.specs.BookFile.{contract_count_in, book_form_in, contract_at, book_in}
use Rattle.layouts.specs.BookTable.{ContractFits}
use Rattle.layouts.proofs.BookFile.{length-book_in, book-fits}
use Rattle.book_rules.specs.BookChecks.{contract_checks, book_checks}
use Rattle.book_rules.proofs.Accepted.{contracts-pass, book-accepted}
use Rattle.book_rules.proofs.Making.{book-made}
use Rattle.order_rules.specs.Reordering.{Reordered}
use Rattle.order_rules.proofs.Perms.{length-perm, each-by}
use Rattle.order_calls.specs.Entries.{IsBook}

module _ {A : Type 0} (P : A → Type 0) (one : (x : A) → IsProp (P x)) where
  each-prop : (xs : List A) → IsProp (Each P xs)
  each-prop [] u v = refl
  each-prop (x ∷ xs) u v = λ i. (one x u.0 v.0 i, each-prop xs u.1 v.1 i)

  each-perm : (xs ys : List A) → Perm xs ys → Each P xs → Each P ys
  each-perm xs ys p h = ∥∥₁_elim p (each-prop ys) (λ d. each-by P d h)

fits-prop : (w : ℕ) (c : Contract) → IsProp (ContractFits w c)
fits-prop w c u v =
    λ i. record {
      holder-fits = le_prop u.holder-fits v.holder-fits i;
      source_fits = le_prop u.source_fits v.source_fits i;
      sink-fits = le_prop u.sink-fits v.sink-fits i;
      quantity-fits = le_prop u.quantity-fits v.quantity-fits i;
    }

-- a contract's checks by a truth value, of which two proofs are one
refuses : Checked → Bool
refuses c = decided c (λ r. true) false

refuses_none : (c : Checked) → refuses c ≡ false → c ≡ passed
unfolding refuses
refuses_none (Ok _) e = refl
refuses_none (Err r) e = cc

module _ (n : ℕ) where
  Good : Contract → Type 0
  Good c = refuses (first (contract_checks n c)) ≡ false

  good-in : (s : List ℕ) → first (book_checks n s) ≡ passed → Each Good (book_in s)
  unfolding Good refuses
  good-in s ok = each-list_to Good (contract_count_in s) (contract_at s) (λ i l. rw (contracts-pass n s ok i l))

  good-pass : (cs : List Contract) → Each Good cs → Each (λ c. first (contract_checks n c) ≡ passed) cs
  unfolding Good
  good-pass [] h = tt
  good-pass (c ∷ cs) h = (refuses_none (first (contract_checks n c)) h.0, good-pass cs h.1)

  module _ (s : List ℕ) (ds : List Contract) (ok : first (book_checks n s) ≡ passed) (p : Reordered (book_in s) ds) where
    good-there : Each Good ds
    unfolding Good
    good-there = each-perm Good (λ c. Bool-set (refuses (first (contract_checks n c))) false) (book_in s) ds p (good-in s ok)

    pub reads_back : (f : Form) → Each (ContractFits (end_width f)) (book_in s) → IsBook n f ds
    reads_back f fits =
        let few : length ds ≤ max_contracts = omega (arith, length-perm (book_in s) ds p, length-book_in s, (book-accepted n s ok).few) in
        let made = book-made f n ds few (each-perm (ContractFits (end_width f)) (fits-prop (end_width f)) (book_in s) ds p fits) (good-pass ds good-there) in
        record { accepted = made.accepted; contracts = made.contracts }

    pub same_width : IsBook n (book_form_in s) ds
    same_width = reads_back (book_form_in s) (book-fits s)
