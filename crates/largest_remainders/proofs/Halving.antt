-- Keys from a number on: from 0 on there are all, from above them none, and a step loses one at most, since they differ. So a search between finds a number from
-- which on there are exactly l.
use mathlib.Core.Path.{◌≡◌, sym, ap, subst, ◌∙◌}
use mathlib.Core.Bool.{Bool, true, false, not}
use mathlib.Core.Logic.{⊎_elim}
use Prim.Native.Nat.{ℕ, suc, ◌+◌, ◌-◌, ◌/◌, ◌^◌, ◌≤◌, ◌<◌}
use native.Mathlib.Nat.{eq-or-lt_of_le}
use native.Mathlib.Omega.{arith}
use lib.Dec.{T, leb, eqb, leb→le, le→leb, nleb→lt, eqb→eq, eqb_refl}
use Rattle.lists.specs.Sets.{count_of}
use Rattle.lists.proofs.Sets.{count-le}
use Rattle.largest_remainders.specs.Inner.{key_limit}
use Rattle.largest_remainders.specs.Ranks.{Different, keys_from_of}
use Rattle.largest_remainders.proofs.Counting.{bit, add_to-mono, add_to-plus, count-is_sum, count-mono, count-all, count_none, count-one}

-- what is x or above is above it, or it is x
step-bit : (k x : ℕ) → bit (leb x k) ≤ bit (leb (suc x) k) + bit (eqb k x)
step-bit k x = by (leb x k) (leb (suc x) k) (eqb k x) (leb→le x k) (le→leb (suc x) k) (λ e. subst (λ (y : ℕ). T (eqb k y)) e (eqb_refl k))
  where
    by : (a b c : Bool) → (T a → x ≤ k) → (suc x ≤ k → T b) → (k ≡ x → T c) → bit a ≤ bit b + bit c
    by true true c f g h = omega arith
    by true false true f g h = omega arith
    by true false false f g h = absurd (⊎_elim (λ e. h (sym e)) g (eq-or-lt_of_le (f tt)))
    by false b c f g h = omega arith

-- bit 63 of a key that is lifted by 2^63 − x
pub lifted_bit : (k x : ℕ) → k < key_limit → x ≤ key_limit → (k + (key_limit - x)) / 2 ^ 63 ≡ bit (leb x k)
lifted_bit k x h l = by (leb x k) (leb→le x k) (nleb→lt x k)
  where
    by : (b : Bool) → (T b → x ≤ k) → (T (not b) → k < x) → (k + (key_limit - x)) / 2 ^ 63 ≡ bit b
    by true f g = omega (arith, f tt)
    by false f g = omega (arith, g tt)

module _ (n : ℕ) (key : ℕ → ℕ) where
  pub from_zero : keys_from_of n key 0 ≡ n
  from_zero = omega (arith, count-all n, count-le n (λ j. leb 0 (key j)), count-mono n (λ j. true) (λ j. leb 0 (key j)) (λ j b t. le→leb 0 (key j) (omega arith)))

  pub from_top : (top : ℕ) → ((j : ℕ) → j < n → key j < top) → keys_from_of n key top ≡ 0
  from_top top small = omega (arith, count_none n, count-mono n (λ j. leb top (key j)) (λ j. false) (λ j b t. no (key j) (small j b) (leb→le top (key j) t)))
    where
      no : (k : ℕ) → k < top → top ≤ k → T false
      no k h l = omega arith

  pub from_step : Different n key → (x : ℕ) → keys_from_of n key x ≤ keys_from_of n key (suc x) + 1
  from_step apart x =
      let one : count_of n (λ j. eqb (key j) x) ≤ 1 =
      count-one n (λ j. eqb (key j) x) (λ i j b c p q. apart i j b c (eqb→eq (key i) x p ∙ sym (eqb→eq (key j) x q))) in
      omega (
        arith,
        count-is_sum n (λ j. leb x (key j)),
        count-is_sum n (λ j. leb (suc x) (key j)),
        count-is_sum n (λ j. eqb (key j) x),
        add_to-plus n (λ j. bit (leb (suc x) (key j))) (λ j. bit (eqb (key j) x)),
        add_to-mono n {f = λ j. bit (leb x (key j))} {g = λ j. bit (leb (suc x) (key j)) + bit (eqb (key j) x)} (λ j b. step-bit (key j) x),
      )

  -- what the search keeps, and where it ends
  pub record Between (l low enough high fewer : ℕ) : Type 0 where
    pub enough-is : enough ≡ keys_from_of n key low
    pub fewer_is : fewer ≡ keys_from_of n key high
    pub is-enough : l ≤ enough
    pub is-fewer : fewer < l

  pub met : Different n key → (l low enough high fewer : ℕ) → Between l low enough high fewer → low < high → high ≤ low + 1 → keys_from_of n key low ≡ l
  met apart l low enough high fewer b g h =
      let next : keys_from_of n key high ≡ keys_from_of n key (suc low) = ap (keys_from_of n key) (omega arith) in
      omega (arith, b.enough-is, b.fewer_is, b.is-enough, b.is-fewer, next, from_step apart low)
