-- The closed form over plain whole numbers: the need is the least cut that is enough, or none is.
use mathlib.Core.Path.{◌≡◌, refl, sym, ap, ◌∙◌}
use mathlib.Core.Logic.{◌↔◌, ⊎_elim}
use mathlib.Core.Bool.{Bool, true, false, cond, ◌&&◌, true≢false}
use Prim.Native.Nat.{ℕ, zero, suc, ◌+◌, ◌-◌, ◌*◌, ◌<◌, ◌≤◌}
use native.Mathlib.Nat.{div-zero, div-lt_iff_lt-mul, mul-le-mul_right, le-max_left, le-max_right, max-le, eq-or-lt_of_le, le_trans}
use native.Mathlib.Omega.{arith}
use borrow.Author.Tests.{leb-true, le-leb}
use lib.Dec.{T, leb}
use lib.IntN.{ℤ, pos, negsuc, ◌-ℤ◌, ◌*ℤ◌}
use lib.Signed.{◌≤ℤ◌, le_z, le_z_yes}
use Rattle.integers.proofs.Linear.{⊖of, ⊖s}
use Rattle.lists.specs.Sets.{lowest_of}
use Rattle.lists.proofs.Search.{both}
use Rattle.cut_rules.specs.Inner.{need_at, need, Enough, enough, closed}
use Rattle.cut_rules.proofs.Lowest.{lowest-is, lowest-none}

-- ---- the division rounded up: the least t with e ≤ w × t
pub ceil_enough : (e w t : ℕ) → 0 < w → need_at (pos e) (pos w) ≤ t → e ≤ t * w
ceil_enough e w t h b = omega (arith, (div-lt_iff_lt-mul {k = w} {x = e + (w - 1)} {y = suc t} h).0 (omega arith))

ceil_least : (e w t : ℕ) → 0 < w → e ≤ t * w → need_at (pos e) (pos w) ≤ t
ceil_least e w t h b = omega (arith, (div-lt_iff_lt-mul {k = w} {x = e + (w - 1)} {y = suc t} h).1 (omega arith))

-- ---- one constraint
pos_enough : (e w t : ℕ) → ((pos e -ℤ pos w *ℤ pos t) ≤ℤ pos 0) ↔ (e ≤ t * w)
pos_enough e w t = simp ⊖s (omega arith)

-- a cut that is enough is at least what the constraint needs
pub at_least : (e w : ℤ) (t : ℕ) → (e -ℤ w *ℤ pos t) ≤ℤ pos 0 → need_at e w ≤ t
at_least (pos e) (pos zero) t h = rw (div-zero (e + (0 - 1))) (omega arith)
at_least (pos e) (pos (suc w)) t h = ceil_least e (suc w) t (omega arith) ((pos_enough e (suc w) t).0 h)
at_least (pos e) (negsuc w) t h = omega arith
at_least (negsuc e) w t h = omega arith

-- where a cut is enough, so is each smaller one that is not below the need
falling : (e : ℤ) (w m t : ℕ) → m ≤ t → (e -ℤ negsuc w *ℤ pos t) ≤ℤ pos 0 → (e -ℤ negsuc w *ℤ pos m) ≤ℤ pos 0
falling e w m t b = rw (⊖of e) (simp ⊖s (λ h. omega (arith, mul-le-mul_right (suc w) b)))

below-zero : (e w m : ℕ) → (negsuc e -ℤ pos w *ℤ pos m) ≤ℤ pos 0
below-zero e w m = simp ⊖s (omega arith)

between : (e w : ℤ) (m t : ℕ) → need_at e w ≤ m → m ≤ t → (e -ℤ w *ℤ pos t) ≤ℤ pos 0 → (e -ℤ w *ℤ pos m) ≤ℤ pos 0
between e (negsuc w) m t a b h = falling e w m t b h
between (negsuc e) (pos w) m t a b h = below-zero e w m
between (pos e) (pos zero) m t a b h = (pos_enough e 0 m).1 (omega (arith, (pos_enough e 0 t).0 h))
between (pos e) (pos (suc w)) m t a b h = (pos_enough e (suc w) m).1 (ceil_enough e (suc w) m (omega arith) a)

-- ---- all constraints below n

pub is_true : (a : Bool) → T a → a ≡ true
is_true true h = refl
is_true false h = absurd h

pub is_false : (a : Bool) → (a ≡ true → ⊥) → a ≡ false
is_false true h = absurd (h refl)
is_false false h = refl

module _ (e w : ℕ → ℤ) where
  need-least : (n t : ℕ) → Enough n e w t → need n e w ≤ t
  unfolding need
  need-least zero t h = omega arith
  need-least (suc n) t h = max-le (need-least n t (λ k b. h k (omega arith))) (at_least (e n) (w n) t (h n (omega arith)))

  pub need-above : (n k : ℕ) → k < n → need_at (e k) (w k) ≤ need n e w
  unfolding need
  need-above zero k h = absurd (omega arith)
  need-above (suc n) k h = ⊎_elim
      (λ q. rw (ap (λ (j : ℕ). need_at (e j) (w j)) {x = k} {y = n} (omega arith)) (le-max_right (need n e w) (need_at (e n) (w n))))
      (λ q. le_trans (need-above n k (omega arith)) (le-max_left (need n e w) (need_at (e n) (w n)))) (eq-or-lt_of_le h)

  -- where some cut is enough, the need is
  need-enough : (n t : ℕ) → Enough n e w t → Enough n e w (need n e w)
  need-enough n t h k b = between (e k) (w k) (need n e w) t (need-above n k b) (need-least n t h) (h k b)

  pub enough-all : (n t : ℕ) → enough n e w t ≡ true → Enough n e w t
  unfolding enough
  enough-all zero t h k b = absurd (omega arith)
  enough-all (suc n) t h k b =
      let p = both (enough n e w t) (le_z (e n -ℤ w n *ℤ pos t) (pos 0)) h in
      ⊎_elim (λ q. rw (ap (λ (j : ℕ). e j -ℤ w j *ℤ pos t) {x = k} {y = n} (omega arith)) (le_z_yes (rw p.1 tt))) (λ q. enough-all n t p.0 k (omega arith)) (eq-or-lt_of_le b)

  all-enough : (n t : ℕ) → Enough n e w t → enough n e w t ≡ true
  unfolding enough
  all-enough zero t h = refl
  all-enough (suc n) t h = rw (all-enough n t (λ k b. h k (omega arith)), is_true (le_z (e n -ℤ w n *ℤ pos t) (pos 0)) (h n (omega arith)).le)

  -- ---- the closed form, of any search f that goes by `Enough` up to q
  module _ (n q : ℕ) (f : ℕ → Bool) (f-is : (t : ℕ) → t ≤ q → (f t ≡ true) ↔ Enough n e w t) where
    -- the need, where it is no more than q and enough, is what the search finds; otherwise the search finds none
    pub need-found : need n e w ≤ q → Enough n e w (need n e w) → lowest_of (suc q) f ≡ need n e w
    need-found b h = lowest-is (suc q) f (need n e w) (omega arith) ((f-is (need n e w) b).1 h) (λ j l. is_false (f j) (λ t. not_lt (need-least n j ((f-is j (omega arith)).0 t)) l))
      where
        not_lt : {a b : ℕ} → a ≤ b → b < a → ⊥
        not_lt x y = omega arith

    none_below : (need n e w ≤ q → Enough n e w (need n e w) → ⊥) → (t : ℕ) → t ≤ q → f t ≡ false
    none_below out t b = is_false (f t) (λ x. let h = (f-is t b).0 x in out (le_trans (need-least n t h) b) (need-enough n t h))

    pub closed-form : lowest_of (suc q) f ≡ closed n e w q (suc q)
    unfolding closed
    closed-form = by (leb (need n e w) q) refl (enough n e w (need n e w)) refl
      where
        none : (need n e w ≤ q → Enough n e w (need n e w) → ⊥) → lowest_of (suc q) f ≡ suc q
        none out = lowest-none (suc q) f (λ j b. none_below out j (omega arith))

        by : (l : Bool) → leb (need n e w) q ≡ l → (m : Bool) → enough n e w (need n e w) ≡ m → lowest_of (suc q) f ≡ cond (l && m) (need n e w) (suc q)
        by true b true c = need-found (leb-true (need n e w) q b) (enough-all n (need n e w) c)
        by true b false c = none (λ x h. true≢false (sym (all-enough n (need n e w) h) ∙ c))
        by false b m c = none (λ x h. true≢false (sym (le-leb (need n e w) q x) ∙ b))
