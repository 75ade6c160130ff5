-- A function of numbers up to a bound has a greatest value, and so has one of lists of n such numbers. The bound is a variable: no proof here computes with it.
use mathlib.Core.Path.{◌≡◌, refl, ap}
use mathlib.Core.Bool.{Bool, true, false, not}
use mathlib.Core.Logic.{⊎_elim}
use mathlib.Core.List.{List, [], ◌∷◌}
use Prim.Native.Nat.{ℕ, zero, suc, ◌≤◌, ◌<◌}
use native.Mathlib.Nat.{eq-or-lt_of_le}
use native.Mathlib.Omega.{arith}
use lib.Dec.{T}
use lib.ListN.{length, get_or}
use lib.IntN.{ℤ}
use lib.Signed.{◌≤ℤ◌, ◌<ℤ◌, ≤ℤ_refl, lt_z, lt_z_yes, lt_z_no}
use Rattle.integers.proofs.Linear.{⊖of, ⊖s, ≤ℤ-trans, ≤ℤ-of_≡}

-- where f is greatest
pub record Greatest (bound : ℕ) (f : ℕ → ℤ) : Type 0 where
  pub place : ℕ
  pub within : place ≤ bound
  pub most : (x : ℕ) → x ≤ bound → f x ≤ℤ f place

-- n numbers, each at most bound
pub record Capped (n bound : ℕ) (p : List ℕ) : Type 0 where
  pub long : length p ≡ n
  pub capped : (k : ℕ) → k < n → get_or p k 0 ≤ bound

-- such a list where F is greatest
pub record Best (n bound : ℕ) (F : List ℕ → ℤ) : Type 0 where
  pub list : List ℕ
  pub is-capped : Capped n bound list
  pub most : (p : List ℕ) → Capped n bound p → F p ≤ℤ F list

lt_le : {a b : ℤ} → a <ℤ b → a ≤ℤ b
lt_le {a} {b} = rw (⊖of a, ⊖of b) (simp ⊖s (omega arith))

-- ---- numbers up to a bound

-- one number more: the old place or the new
greatest_step : (bound : ℕ) (f : ℕ → ℤ) → Greatest bound f → Greatest (suc bound) f
greatest_step bound f g = by (lt_z (f g.place) (f (suc bound))) (λ t. lt_le (lt_z_yes t)) (λ t. lt_z_no t)
  where
    older : (z : ℤ) → f g.place ≤ℤ z → f (suc bound) ≤ℤ z → (x : ℕ) → x ≤ suc bound → f x ≤ℤ z
    older z old new x h = ⊎_elim (λ q. ≤ℤ-trans (≤ℤ-of_≡ (ap f q)) new) (λ q. ≤ℤ-trans (g.most x (omega arith)) old) (eq-or-lt_of_le h)

    by : (c : Bool) → (T c → f g.place ≤ℤ f (suc bound)) → (T (not c) → f (suc bound) ≤ℤ f g.place) → Greatest (suc bound) f
    by true lo hi = record { place = suc bound; within = omega arith; most = older (f (suc bound)) (lo tt) (≤ℤ_refl (f (suc bound))) }
    by false lo hi = record { place = g.place; within = omega (arith, g.within); most = older (f g.place) (≤ℤ_refl (f g.place)) (hi tt) }

pub greatest : (bound : ℕ) (f : ℕ → ℤ) → Greatest bound f
greatest zero f = record { place = 0; within = omega arith; most = λ x h. ≤ℤ-of_≡ (ap f (omega arith)) }
greatest (suc bound) f = greatest_step bound f (greatest bound f)

-- ---- lists of n numbers up to a bound

capped-cons : (n bound x : ℕ) (p : List ℕ) → x ≤ bound → Capped n bound p → Capped (suc n) bound (x ∷ p)
capped-cons n bound x p h c = record { long = ap suc c.long; capped = each }
  where
    each : (k : ℕ) → k < suc n → get_or (x ∷ p) k 0 ≤ bound
    each zero b = h
    each (suc k) b = c.capped k (omega arith)

capped-tail : (n bound x : ℕ) (p : List ℕ) → Capped (suc n) bound (x ∷ p) → Capped n bound p
capped-tail n bound x p c = record { long = omega (arith, c.long); capped = λ k b. c.capped (suc k) (omega arith) }

best_none : (bound : ℕ) (F : List ℕ → ℤ) → Best 0 bound F
best_none bound F = record { list = []; is-capped = record { long = refl; capped = λ k b. absurd (omega arith) }; most = λ p c. only p c.long }
  where
    only : (p : List ℕ) → length p ≡ 0 → F p ≤ℤ F []
    only [] e = ≤ℤ_refl (F [])
    only (x ∷ p) e = absurd (omega arith)

-- one number more at the front: the best list behind each first number, and the best first number
best_step : (n bound : ℕ) (F : List ℕ → ℤ) → ((x : ℕ) → Best n bound (λ p. F (x ∷ p))) → Best (suc n) bound F
best_step n bound F behind = record { list = x ∷ (behind x).list; is-capped = capped-cons n bound x (behind x).list top.within (behind x).is-capped; most = most }
  where
    top : Greatest bound (λ x. F (x ∷ (behind x).list))
    top = greatest bound (λ x. F (x ∷ (behind x).list))

    x : ℕ
    x = top.place

    most : (p : List ℕ) → Capped (suc n) bound p → F p ≤ℤ F (x ∷ (behind x).list)
    most [] c = absurd (omega (arith, c.long))
    most (y ∷ p) c = ≤ℤ-trans ((behind y).most p (capped-tail n bound y p c)) (top.most y (c.capped 0 (omega arith)))

pub best : (n bound : ℕ) (F : List ℕ → ℤ) → Best n bound F
best zero bound F = best_none bound F
best (suc n) bound F = best_step n bound F (λ x. best n bound (λ p. F (x ∷ p)))
