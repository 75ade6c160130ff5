-- Laws of checks that go contract by contract.
use mathlib.Core.Path.{◌≡◌, refl, sym, ap₂, ◌∙◌}
use mathlib.Core.Logic.{⊎_elim}
use mathlib.Core.List.{List, ◌++◌}
use mathlib.Core.Bool.{Bool, true, false, ◌||◌}
use Prim.Native.Nat.{ℕ, zero, suc, ◌+◌, ◌<◌, ◌≤◌, max}
use lib.ListN.{length}
use borrow.Author.Tests.{lt-ltb, le-ltb, eq-eqb, ne_eqb, le-leb, lt-leb, leb-false}
use lib.Dec.{leb}
use native.Mathlib.Nat.{eq-or-lt_of_le}
use native.Mathlib.Numerals.{add-one}
use native.Mathlib.Omega.{arith}
use Rattle.tariff.specs.declared.refusals.Refusal.{Refusal}
use Rattle.std.specs.Prelude.{Ok, Err}
use Rattle.tariff.specs.Refusals.{passed}
use Rattle.tariff.specs.Refusals.{Check, first}
use Rattle.tariff.specs.Units.{max_contracts}
use Rattle.tariff.proofs.Checks.{first-append, passed_append}
use Rattle.tariff.specs.declared.refusals.Refusal.TheVariants.{ShortFile, SpareBits, FileLength, ContractCount}
use Rattle.layouts.specs.declared.forms.Form.{Form}
use Rattle.layouts.specs.Forms.{spare_pattern_of}
use Rattle.layouts.specs.BookFile.{book_bytes_of, contract_count_in, book_spare_in, book_form_in, contract_in}
use Rattle.book_rules.specs.BookChecks.{checks_to, contract_checks, book_checks}

module _ (f : ℕ → List Check) where
  pub checks_start : first (checks_to 0 f) ≡ passed
  unfolding first checks_to
  checks_start = refl

  -- none so far, and none at i
  pub checks_more : (i : ℕ) → first (checks_to i f) ≡ passed → first (f i) ≡ passed → first (checks_to (i + 1) f) ≡ passed
  unfolding checks_to
  checks_more i e g = rw (add-one, first-append (checks_to i f) (f i), e, g)

  -- none before i, and one at i: that is the first of all
  pub checks_stop : (m i : ℕ) (r : Refusal) → i < m → first (checks_to i f) ≡ passed → first (f i) ≡ Err r → first (checks_to m f) ≡ Err r
  unfolding checks_to
  checks_stop zero i r h e g = absurd (omega arith)
  checks_stop (suc m) i r h e g =
      first-append (checks_to m f) (f m)
      ∙ ⊎_elim
      (λ q. let same : i ≡ m = omega arith in rw (rw same at e) (rw same at g))
      (λ q. rw (checks_stop m i r (omega arith) e g))
      (eq-or-lt_of_le h)

  -- none before the last
  pub checks_end : (m i : ℕ) → i ≡ m → first (checks_to i f) ≡ passed → passed ≡ first (checks_to m f)
  checks_end m i h e = sym (rw h at e)

  -- where each passes, all do
  pub checks_all : (m : ℕ) → ((i : ℕ) → i < m → first (f i) ≡ passed) → first (checks_to m f) ≡ passed
  unfolding first checks_to
  checks_all zero h = refl
  checks_all (suc m) h = first-append (checks_to m f) (f m) ∙ rw (checks_all m (λ i b. h i (omega arith)), h m (omega arith))

  -- where all pass, each does
  pub checks_each : (m : ℕ) → first (checks_to m f) ≡ passed → (i : ℕ) → i < m → first (f i) ≡ passed
  unfolding checks_to
  checks_each zero e i h = absurd (omega arith)
  checks_each (suc m) e i h =
      let p = passed_append (checks_to m f) (f m) e in
      ⊎_elim (λ q. let same : m ≡ i = omega arith in rw same at p.1) (λ q. checks_each m p.0 i (omega arith)) (eq-or-lt_of_le h)

-- the same checks for each, the same for all
pub checks_same : (m : ℕ) (f g : ℕ → List Check) → ((i : ℕ) → i < m → f i ≡ g i) → checks_to m f ≡ checks_to m g
unfolding checks_to
checks_same zero f g h = refl
checks_same (suc m) f g h = ap₂ (λ (xs ys : List Check). xs ++ ys) (checks_same m f g (λ i b. h i (omega arith))) (h m (omega arith))

-- two ends by the larger of them
pub end_refused : (n a b : ℕ) → n ≤ max a b → (leb n a || leb n b) ≡ true
end_refused n a b h = by (leb n a) refl
  where
    by : (x : Bool) → leb n a ≡ x → (x || leb n b) ≡ true
    by true e = refl
    by false e = le-leb n b (omega (arith, leb-false n a e))

pub ends-passed : (n a b : ℕ) → max a b < n → (leb n a || leb n b) ≡ false
ends-passed n a b h = rw (lt-leb n a (omega arith)) (lt-leb n b (omega arith))

-- ---- the book's own checks, one after the other; m is the count read, f the form, x the spare bits and p the form's
module _ (n : ℕ) (s : List ℕ) where
  pub short-book : length s < 2 → Err ShortFile ≡ first (book_checks n s)
  unfolding first book_checks
  short-book h = rw (lt-ltb (length s) 2 h)

  module _ (long : 2 ≤ length s) (m : ℕ) (count : m ≡ contract_count_in s) where
    pub many_contracts : max_contracts < m → Err ContractCount ≡ first (book_checks n s)
    unfolding first book_checks
    many_contracts h = rw (le-ltb (length s) 2 long, ← count, lt-ltb max_contracts m h)

    module _ (few : m ≤ max_contracts) (f : Form) (form : f ≡ book_form_in s) (x : ℕ) (spare : x ≡ book_spare_in s) (p : ℕ) (pattern : p ≡ spare_pattern_of f) where
      pub spare-other : (x ≡ p → ⊥) → Err SpareBits ≡ first (book_checks n s)
      unfolding first book_checks
      spare-other h = rw (le-ltb (length s) 2 long, ← count, le-ltb max_contracts m few, ← form, ← pattern, ← spare, ne_eqb x p h)

      module _ (same : x ≡ p) (size : ℕ) (right : size ≡ book_bytes_of f m) where
        pub wrong_length : (length s ≡ size → ⊥) → Err FileLength ≡ first (book_checks n s)
        unfolding first book_checks
        wrong_length h =
            rw (le-ltb (length s) 2 long, ← count, le-ltb max_contracts m few, ← form, ← pattern, ← spare, eq-eqb x p same, ← right, ne_eqb (length s) size h)

        pub right-header : length s ≡ size → first (checks_to m (λ i. contract_checks n (contract_in f s i))) ≡ first (book_checks n s)
        unfolding first book_checks
        right-header h =
            rw (le-ltb (length s) 2 long, ← count, le-ltb max_contracts m few, ← form, ← pattern, ← spare, eq-eqb x p same, ← right, eq-eqb (length s) size h)
