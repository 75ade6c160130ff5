-- Laws of the numbers in a set as text.
use mathlib.Core.Path.{◌≡◌, refl, sym, ap, ap₂}
use mathlib.Core.Bool.{Bool, true, false, cond}
use mathlib.Core.List.{List, [], ◌++◌}
use Prim.Native.Nat.{ℕ, zero, suc, ◌+◌, ◌/◌, ◌%◌, ◌^◌, ◌<◌}
use native.Mathlib.Numerals.{add-one}
use native.Mathlib.Omega.{arith}
use borrow.Author.Tests.{eqb-true, eqb-false, eq-eqb, ne_eqb}
use lib.Dec.{eqb}
use lib.ListN.{length}
use Rattle.text_format.specs.Ascii.{ascii}
use Rattle.text_format.specs.Decimal.{decimal}
use Rattle.lists.specs.Sets.{set_of}
use Rattle.lists.proofs.Sets.{set-bit}
use Rattle.text_report_rules.specs.Report.{numbers_to, blank_after}
use Rattle.text_report_rules.specs.Inner.{in_set, member}

-- ---- one number more

module _ (at next set k : ℕ) where
  pub not_member : (set / 2 ^ k % 2 ≡ 1 → ⊥) → cond (in_set set k) (member at next k) [] ≡ []
  not_member h = rw (ne_eqb (set / 2 ^ k % 2) 1 h)

  pub first_member : set / 2 ^ k % 2 ≡ 1 → next ≡ at → cond (in_set set k) (member at next k) [] ≡ decimal k
  unfolding member
  first_member h e = rw (eq-eqb (set / 2 ^ k % 2) 1 h, eq-eqb next at e)

  pub next-member : set / 2 ^ k % 2 ≡ 1 → (next ≡ at → ⊥) → cond (in_set set k) (member at next k) [] ≡ ascii " " ++ decimal k
  unfolding member
  next-member h z = rw (eq-eqb (set / 2 ^ k % 2) 1 h, ne_eqb next at z)

  -- nothing stands there yet exactly where the next place is the first
  same_test : (l : ℕ) → next ≡ at + l → eqb l 0 ≡ eqb next at
  same_test l e = by (eqb l 0) refl
    where
      by : (b : Bool) → eqb l 0 ≡ b → b ≡ eqb next at
      by true t = sym (eq-eqb next at (omega (arith, eqb-true l 0 t)))
      by false t = sym (ne_eqb next at (λ q. eqb-false l 0 t (omega arith)))

  pub numbers_more : next ≡ at + length (numbers_to k (in_set set)) → numbers_to (k + 1) (in_set set) ≡ numbers_to k (in_set set) ++ cond (in_set set k) (member at next k) []
  unfolding numbers_to blank_after member
  numbers_more e =
      rw add-one (ap (λ (b : Bool). numbers_to k (in_set set) ++ cond (in_set set k) (cond b [] (ascii " ") ++ decimal k) []) (same_test (length (numbers_to k (in_set set))) e))

-- ---- the numbers that two functions have

pub numbers-cong : (k : ℕ) (f g : ℕ → Bool) → ((j : ℕ) → j < k → f j ≡ g j) → numbers_to k f ≡ numbers_to k g
unfolding numbers_to
numbers-cong zero f g h = refl
numbers-cong (suc k) f g h =
    ap₂ (λ (l : List ℕ) (b : Bool). l ++ cond b (blank_after l ++ decimal k) []) (numbers-cong k f g (λ j b. h j (omega arith))) (h k (omega arith))

-- the bits of a function's set are the function's
pub numbers-set : (k : ℕ) (f : ℕ → Bool) → numbers_to k (in_set (set_of k f)) ≡ numbers_to k f
numbers-set k f = numbers-cong k _ f (λ j h. rw (set-bit k f j h) (bit (f j)))
  where
    bit : (b : Bool) → eqb (cond b 1 0) 1 ≡ b
    bit true = refl
    bit false = refl
