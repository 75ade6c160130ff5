-- Laws over plain whole numbers, their sums, and where one is largest.
use mathlib.Core.Path.{◌≡◌, refl, sym, ap, ap₂, ◌∙◌}
use mathlib.Core.Logic.{⊎_elim}
use mathlib.Core.Bool.{Bool, true, false, not, cond}
use mathlib.Core.List.{List, [], ◌∷◌}
use Prim.Native.Nat.{ℕ, zero, suc, ◌+◌, ◌≤◌, ◌<◌}
use native.Mathlib.Nat.{mul-le-mul_left, eq-or-lt_of_le, zero-mul, add-zero}
use native.Mathlib.Omega.{arith}
use lib.Dec.{T}
use lib.IntN.{ℤ, pos, negsuc, ◌+ℤ◌, ◌-ℤ◌, ◌*ℤ◌, zero-*ℤ, *ℤ-zero}
use lib.Signed.{◌≤ℤ◌, ◌<ℤ◌, ≤ℤ_refl, lt_z, lt_z_yes, lt_z_no, clash_ℤ}
use Rattle.lists.specs.Lists.{Each}
use Rattle.lists.specs.Sets.{count_of}
use Rattle.integers.specs.Sums.{max0, sum_to, sum_over_of}
use Rattle.integers.proofs.Linear.{⊖of, ⊖s, ≤ℤ-trans, ≤ℤ-of_≡, *pos_mono, *ℤ-pos1, +-*ℤ, swap4}
use Rattle.exposure_rules.specs.Exposure.{largest_of}

pub lt_le : {a b : ℤ} → a <ℤ b → a ≤ℤ b
lt_le {a} {b} = rw (⊖of a, ⊖of b) (simp ⊖s (omega arith))

pub minus-mono : {a b : ℤ} (c : ℤ) → a ≤ℤ b → (a -ℤ c) ≤ℤ (b -ℤ c)
minus-mono {a} {b} c = rw (⊖of a, ⊖of b, ⊖of c) (simp ⊖s (omega arith))

-- ---- the greater of a number and 0

pub max0-above : (e : ℤ) → e ≤ℤ max0 e
max0-above e = rw (⊖of e) (simp ⊖s (omega arith))

pub max0-nonneg : (e : ℤ) → pos 0 ≤ℤ max0 e
max0-nonneg e = rw (⊖of e) (simp ⊖s (omega arith))

pub max0-same : (e : ℤ) → pos 0 ≤ℤ e → max0 e ≡ e
max0-same e = rw (⊖of e) (simp ⊖s (omega arith))

pub max0-none : (e : ℤ) → e ≤ℤ pos 0 → max0 e ≡ pos 0
max0-none e = rw (⊖of e) (simp ⊖s (omega arith))

pub max0-below : (e t : ℤ) → e ≤ℤ t → pos 0 ≤ℤ t → max0 e ≤ℤ t
max0-below e t = rw (⊖of e, ⊖of t) (simp ⊖s (omega arith))

pub pos_mono : {m n : ℕ} → m ≤ n → pos m ≤ℤ pos n
pos_mono {m} {n} h = simp ⊖s (omega arith)

more_of : (e : ℤ) (p most : ℕ) → p ≤ most → (max0 e *ℤ pos p) ≤ℤ (max0 e *ℤ pos most)
more_of (pos n) p most h = pos_mono (mul-le-mul_left n h)
more_of (negsuc n) p most h = rw (zero-mul p, zero-mul most) (≤ℤ_refl (pos 0))

-- at a price up to the most, a number is at most what of it is above 0, at the most
pub at-highest : (e : ℤ) (p most : ℕ) → p ≤ most → (e *ℤ pos p) ≤ℤ (max0 e *ℤ pos most)
at-highest e p most h = ≤ℤ-trans (*pos_mono p (max0-above e)) (more_of e p most h)

-- ---- sums

minus-step : (A B a b : ℤ) (w : ℕ) → (A -ℤ B) +ℤ (a -ℤ b) *ℤ pos w ≡ (A +ℤ a *ℤ pos w) -ℤ (B +ℤ b *ℤ pos w)
minus-step A B a b w = rw (⊖of A, ⊖of B, ⊖of a, ⊖of b) (simp ⊖s (omega arith))

pub sum-minus : (n : ℕ) (a b : ℕ → ℤ) (w : ℕ → ℕ)
    → sum_to n (λ k. (a k -ℤ b k) *ℤ pos (w k)) ≡ sum_to n (λ k. a k *ℤ pos (w k)) -ℤ sum_to n (λ k. b k *ℤ pos (w k))
unfolding sum_to
sum-minus zero a b w = refl
sum-minus (suc n) a b w =
    ap (λ (z : ℤ). z +ℤ (a n -ℤ b n) *ℤ pos (w n)) (sum-minus n a b w)
    ∙ minus-step (sum_to n (λ k. a k *ℤ pos (w k))) (sum_to n (λ k. b k *ℤ pos (w k))) (a n) (b n) (w n)

pub sum_to_times : (n : ℕ) (g : ℕ → ℤ) (c : ℤ) → sum_to n (λ k. g k *ℤ c) ≡ sum_to n g *ℤ c
unfolding sum_to
sum_to_times zero g c = sym (zero-*ℤ c)
sum_to_times (suc n) g c = ap (λ z. z +ℤ g n *ℤ c) (sum_to_times n g c) ∙ sym (+-*ℤ (sum_to n g) (g n) c)

pub sum_over-plus : {A : Type 0} (xs : List A) (g h : A → ℤ) → sum_over_of xs (λ x. g x +ℤ h x) ≡ sum_over_of xs g +ℤ sum_over_of xs h
unfolding sum_over_of
sum_over-plus [] g h = refl
sum_over-plus (x ∷ xs) g h = ap (λ z. g x +ℤ h x +ℤ z) (sum_over-plus xs g h) ∙ swap4 (g x) (h x) (sum_over_of xs g) (sum_over_of xs h)

-- figures that are the same of each such element have the same sum
pub sum_over-each : {A : Type 0} (P : A → Type 0) (v w : A → ℤ) → ((x : A) → P x → v x ≡ w x) → (xs : List A) → Each P xs → sum_over_of xs v ≡ sum_over_of xs w
unfolding sum_over_of
sum_over-each P v w h [] r = refl
sum_over-each P v w h (x ∷ xs) r = ap₂ ◌+ℤ◌ (h x r.0) (sum_over-each P v w h xs r.1)

count-step : (S t x : ℤ) (c : ℕ) → S ≤ℤ (t *ℤ pos c) → x ≤ℤ t → (S +ℤ x) ≤ℤ (t *ℤ pos (c + 1))
count-step S t x c = rw (⊖of S, ⊖of t, ⊖of x) (simp ⊖s (omega arith))

skip_step : (S B x : ℤ) → S ≤ℤ B → x ≤ℤ pos 0 → (S +ℤ x) ≤ℤ B
skip_step S B x = rw (⊖of S, ⊖of B, ⊖of x) (simp ⊖s (omega arith))

-- a sum of numbers, above 0 only where b holds and nowhere above t, is at most t for each of those
pub sum-counted : (n : ℕ) (x : ℕ → ℤ) (b : ℕ → Bool) (t : ℤ) → ((k : ℕ) → k < n → x k ≤ℤ t) → ((k : ℕ) → k < n → b k ≡ false → x k ≤ℤ pos 0)
    → sum_to n x ≤ℤ (t *ℤ pos (count_of n b))
unfolding sum_to count_of
sum-counted zero x b t h z = ≤ℤ-of_≡ (sym (*ℤ-zero t))
sum-counted (suc n) x b t h z = by (b n) refl (sum-counted n x b t (λ k l. h k (omega arith)) (λ k l. z k (omega arith)))
  where
    by : (y : Bool) → b n ≡ y → sum_to n x ≤ℤ (t *ℤ pos (count_of n b)) → (sum_to n x +ℤ x n) ≤ℤ (t *ℤ pos (count_of n b + cond y 1 0))
    by true e rest = count-step (sum_to n x) t (x n) (count_of n b) rest (h n (omega arith))
    by false e rest = rw (add-zero (count_of n b)) (skip_step (sum_to n x) (t *ℤ pos (count_of n b)) (x n) rest (z n (omega arith) e))

pub sum_nonneg : (n : ℕ) (x : ℕ → ℤ) → ((k : ℕ) → k < n → pos 0 ≤ℤ x k) → pos 0 ≤ℤ sum_to n x
unfolding sum_to
sum_nonneg zero x h = ≤ℤ_refl (pos 0)
sum_nonneg (suc n) x h = plus (sum_to n x) (x n) (sum_nonneg n x (λ k l. h k (omega arith))) (h n (omega arith))
  where
    plus : (a b : ℤ) → pos 0 ≤ℤ a → pos 0 ≤ℤ b → pos 0 ≤ℤ (a +ℤ b)
    plus a b = rw (⊖of a, ⊖of b) (simp ⊖s (omega arith))

pub sum-nonpos : (n : ℕ) (x : ℕ → ℤ) → ((k : ℕ) → k < n → x k ≤ℤ pos 0) → sum_to n x ≤ℤ pos 0
unfolding sum_to
sum-nonpos zero x h = ≤ℤ_refl (pos 0)
sum-nonpos (suc n) x h = skip_step (sum_to n x) (pos 0) (x n) (sum-nonpos n x (λ k l. h k (omega arith))) (h n (omega arith))

-- once at most, of a number that is not negative
pub at-most_once : (t : ℤ) (c : ℕ) → pos 0 ≤ℤ t → c ≤ 1 → (t *ℤ pos c) ≤ℤ t
at-most_once t zero h l = ≤ℤ-trans (≤ℤ-of_≡ (*ℤ-zero t)) h
at-most_once t (suc zero) h l = ≤ℤ-of_≡ (*ℤ-pos1 t)
at-most_once t (suc (suc c)) h l = absurd (omega arith)

-- ---- where a function is largest

pub largest_inside : (n : ℕ) (f : ℕ → ℤ) → 0 < n → largest_of n f < n
unfolding largest_of
largest_inside zero f h = absurd (omega arith)
largest_inside (suc zero) f h = one (lt_z (f 0) (f 0))
  where
    one : (b : Bool) → cond b 0 0 < 1
    one true = omega arith
    one false = omega arith
largest_inside (suc (suc n)) f h = by (lt_z (f (largest_of (suc n) f)) (f (suc n))) (largest_inside (suc n) f (omega arith))
  where
    by : (b : Bool) → largest_of (suc n) f < suc n → cond b (suc n) (largest_of (suc n) f) < suc (suc n)
    by true l = omega arith
    by false l = omega arith

pub largest_upto : (n : ℕ) (f : ℕ → ℤ) → largest_of n f ≤ n
unfolding largest_of
largest_upto zero f = omega arith
largest_upto (suc n) f = let l = largest_inside (suc n) f (omega arith) in omega arith

pub largest_most : (n : ℕ) (f : ℕ → ℤ) (k : ℕ) → k < n → f k ≤ℤ f (largest_of n f)
unfolding largest_of
largest_most zero f k h = absurd (omega arith)
largest_most (suc n) f k h = by (lt_z (f (largest_of n f)) (f n)) (upto (largest_most n f k)) (λ t. lt_le (lt_z_yes t)) (λ t. lt_z_no t)
  where
    upto : (k < n → f k ≤ℤ f (largest_of n f)) → (z : ℤ) → f n ≤ℤ z → f (largest_of n f) ≤ℤ z → f k ≤ℤ z
    upto earlier z new old = ⊎_elim (λ e. ≤ℤ-trans (≤ℤ-of_≡ (ap f (omega arith))) new) (λ l. ≤ℤ-trans (earlier (omega arith)) old) (eq-or-lt_of_le h)

    by : (b : Bool) → ((z : ℤ) → f n ≤ℤ z → f (largest_of n f) ≤ℤ z → f k ≤ℤ z) → (T b → f (largest_of n f) ≤ℤ f n) → (T (not b) → f n ≤ℤ f (largest_of n f))
        → f k ≤ℤ f (cond b n (largest_of n f))
    by true both lo hi = both (f n) (≤ℤ_refl (f n)) (lo tt)
    by false both lo hi = both (f (largest_of n f)) (hi tt) (≤ℤ_refl (f (largest_of n f)))

-- and of equals it is the lowest
pub largest_lowest : (n : ℕ) (f : ℕ → ℤ) (k : ℕ) → k < n → f k ≡ f (largest_of n f) → largest_of n f ≤ k
unfolding largest_of
largest_lowest zero f k h e = absurd (omega arith)
largest_lowest (suc n) f k h e = by (lt_z (f (largest_of n f)) (f n)) refl (largest_lowest n f k) e
  where
    by : (b : Bool) → lt_z (f (largest_of n f)) (f n) ≡ b → (k < n → f k ≡ f (largest_of n f) → largest_of n f ≤ k) → f k ≡ f (cond b n (largest_of n f))
        → cond b n (largest_of n f) ≤ k
    by true t earlier q =
        ⊎_elim (λ s. omega arith) (λ s. clash_ℤ {a = f (largest_of n f)} {b = f n} (lt_z_yes (rw t tt)) (≤ℤ-trans (≤ℤ-of_≡ (sym q)) (largest_most n f k (omega arith))))
        (eq-or-lt_of_le h)
    by false t earlier q = ⊎_elim (λ s. omega (arith, largest_upto n f)) (λ s. earlier (omega arith) q) (eq-or-lt_of_le h)
