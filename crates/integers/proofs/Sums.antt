-- Laws of the finite sums.
use mathlib.Core.Path.{◌≡◌, refl, sym, ◌∙◌, ap, ap₂}
use mathlib.Core.Logic.{◌≢◌, ⊎_elim}
use mathlib.Core.List.{List, [], ◌∷◌, ◌++◌}
use Prim.Native.Nat.{ℕ, zero, suc, ◌<◌}
use native.Mathlib.Nat.{eq-or-lt_of_le}
use native.Mathlib.Omega.{arith}
use lib.IntN.{ℤ, pos, ◌+ℤ◌, ◌*ℤ◌, +ℤ_assoc, +ℤ_idl, +ℤ_idr, zero-*ℤ}
use lib.Signed.{◌≤ℤ◌, ≤ℤ_refl}
use Rattle.integers.specs.Sums.{sum_to, sum_over_of}
use Rattle.integers.proofs.Linear.{+-*ℤ, +ℤ-mono, swap4}

-- ---- over indices
pub sum_to_cong : (n : ℕ) {g h : ℕ → ℤ} → ((k : ℕ) → k < n → g k ≡ h k) → sum_to n g ≡ sum_to n h
unfolding sum_to
sum_to_cong zero e = refl
sum_to_cong (suc n) e = ap₂ ◌+ℤ◌ (sum_to_cong n (λ k b. e k (omega arith))) (e n (omega arith))

pub sum_to_zero : (n : ℕ) → sum_to n (λ k. pos 0) ≡ pos 0
unfolding sum_to
sum_to_zero zero = refl
sum_to_zero (suc n) = +ℤ_idr _ ∙ sum_to_zero n

pub sum_to_plus : (n : ℕ) (g h : ℕ → ℤ) → sum_to n (λ k. g k +ℤ h k) ≡ sum_to n g +ℤ sum_to n h
unfolding sum_to
sum_to_plus zero g h = refl
sum_to_plus (suc n) g h = ap (λ z. z +ℤ (g n +ℤ h n)) (sum_to_plus n g h) ∙ swap4 (sum_to n g) (sum_to n h) (g n) (h n)

pub sum_to_mono : (n : ℕ) {g h : ℕ → ℤ} → ((k : ℕ) → k < n → g k ≤ℤ h k) → sum_to n g ≤ℤ sum_to n h
unfolding sum_to
sum_to_mono zero e = ≤ℤ_refl (pos 0)
sum_to_mono (suc n) e = +ℤ-mono (sum_to_mono n (λ k b. e k (omega arith))) (e n (omega arith))

-- all but the one at k are 0
pub sum_to_one : (n k : ℕ) (g : ℕ → ℤ) → k < n → ((j : ℕ) → j < n → j ≢ k → g j ≡ pos 0) → sum_to n g ≡ g k
unfolding sum_to
sum_to_one zero k g h e = absurd (omega arith)
sum_to_one (suc n) k g h e = ⊎_elim last (λ q. ap₂ ◌+ℤ◌ (sum_to_one n k g (omega arith) (λ j b. e j (omega arith))) (e n (omega arith) (omega arith)) ∙ +ℤ_idr (g k)) (eq-or-lt_of_le h)
  where
    last : suc k ≡ suc n → sum_to n g +ℤ g n ≡ g k
    last q = ap₂ ◌+ℤ◌ (sum_to_cong n (λ j b. e j (omega arith) (omega arith)) ∙ sum_to_zero n) (ap g (omega arith)) ∙ +ℤ_idl (g k)

-- ---- over a list
module _ {A : Type 0} where
  pub sum_over-cong : (xs : List A) {g h : A → ℤ} → ((x : A) → g x ≡ h x) → sum_over_of xs g ≡ sum_over_of xs h
  unfolding sum_over_of
  sum_over-cong [] e = refl
  sum_over-cong (x ∷ xs) e = ap₂ ◌+ℤ◌ (e x) (sum_over-cong xs e)

  pub sum_over-zero : (xs : List A) → sum_over_of xs (λ x. pos 0) ≡ pos 0
  unfolding sum_over_of
  sum_over-zero [] = refl
  sum_over-zero (x ∷ xs) = +ℤ_idl _ ∙ sum_over-zero xs

  pub sum_over-mono : (xs : List A) {g h : A → ℤ} → ((x : A) → g x ≤ℤ h x) → sum_over_of xs g ≤ℤ sum_over_of xs h
  unfolding sum_over_of
  sum_over-mono [] e = ≤ℤ_refl (pos 0)
  sum_over-mono (x ∷ xs) e = +ℤ-mono (e x) (sum_over-mono xs e)

  pub sum_over-append : (xs ys : List A) (g : A → ℤ) → sum_over_of (xs ++ ys) g ≡ sum_over_of xs g +ℤ sum_over_of ys g
  unfolding sum_over_of
  sum_over-append [] ys g = sym (+ℤ_idl (sum_over_of ys g))
  sum_over-append (x ∷ xs) ys g = ap (λ z. g x +ℤ z) (sum_over-append xs ys g) ∙ sym (+ℤ_assoc (g x) (sum_over_of xs g) (sum_over_of ys g))

  pub sum_over-times : (xs : List A) (g : A → ℤ) (c : ℤ) → sum_over_of xs (λ x. g x *ℤ c) ≡ sum_over_of xs g *ℤ c
  unfolding sum_over_of
  sum_over-times [] g c = sym (zero-*ℤ c)
  sum_over-times (x ∷ xs) g c = ap (λ z. g x *ℤ c +ℤ z) (sum_over-times xs g c) ∙ sym (+-*ℤ (g x) (sum_over_of xs g) c)

  -- two sums change places
  pub sum-swap : (xs : List A) (n : ℕ) (g : A → ℕ → ℤ) → sum_over_of xs (λ x. sum_to n (g x)) ≡ sum_to n (λ k. sum_over_of xs (λ x. g x k))
  unfolding sum_over_of
  sum-swap [] n g = sym (sum_to_zero n)
  sum-swap (x ∷ xs) n g = ap (λ z. sum_to n (g x) +ℤ z) (sum-swap xs n g) ∙ sym (sum_to_plus n (g x) (λ k. sum_over_of xs (λ x. g x k)))
