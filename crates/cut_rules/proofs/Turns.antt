-- The turns of code's two loops over plain whole numbers: the need so far and what one constraint more makes of it, and whether a cut is enough.
use mathlib.Core.Path.{◌≡◌, refl, sym, ap, ◌∙◌}
use mathlib.Core.Bool.{Bool, true, false, cond, ◌&&◌}
use Prim.Native.Nat.{ℕ, zero, suc, ◌+◌, ◌-◌, ◌*◌, ◌/◌, ◌<◌, ◌≤◌, max}
use native.Mathlib.Nat.{div-zero, mul-le-mul_right}
use native.Mathlib.Omega.{arith}
use borrow.Author.Tests.{leb-true, le-leb, ltb-true, ltb-false, lt-ltb}
use lib.Dec.{ltb, leb}
use lib.IntN.{ℤ, pos, negsuc, nat_abs, ◌-ℤ◌, ◌*ℤ◌, *ℤ-zero}
use lib.Signed.{◌≤ℤ◌, ◌<ℤ◌, le_z, le_z_yes, clash_ℤ}
use Rattle.integers.proofs.Linear.{⊖of, ⊖s}
use Rattle.cut_rules.specs.Inner.{need_at, need, raised_to, enough, closed}
use Rattle.cut_rules.proofs.Needs.{at_least, ceil_enough, need-above, enough-all, is_true, is_false}

-- ---- the division

not_above : (w : ℕ) → pos (suc w) ≤ℤ pos 0 → ⊥
not_above w = simp ⊖s (omega arith)

-- at a slope of 0 or below there is no need that would help
pub flat : (e w : ℤ) → w ≤ℤ pos 0 → need_at e w ≡ 0
flat (pos e) (pos zero) h = div-zero (e + (0 - 1))
flat (pos e) (pos (suc w)) h = absurd (not_above w h)
flat (pos e) (negsuc w) h = refl
flat (negsuc e) w h = refl

-- by the sizes of an overload and of a slope above 0
pub need-sizes : (e w : ℤ) → pos 0 <ℤ e → pos 0 <ℤ w → (nat_abs e + (nat_abs w - 1)) / nat_abs w ≡ need_at e w
need-sizes (pos e) (pos w) he hw = refl
need-sizes (pos e) (negsuc w) he hw = absurd hw.lt
need-sizes (negsuc e) w he hw = absurd he.lt

-- ---- the need raised by one overload e, at slope w

plain : (a b n : ℕ) → (pos b *ℤ pos n) <ℤ pos a → n * b < a
plain a b n = simp ⊖s (omega arith)

-- where the cut n is short, it is below the need
short : (e w : ℤ) (n : ℕ) → 0 < need_at e w → (w *ℤ pos n) <ℤ e → n < need_at e w
short (pos a) (pos zero) n p h = absurd (omega (arith, div-zero (a + (0 - 1))))
short (pos a) (pos (suc b)) n p h =
    let l = plain a (suc b) n h in
    let out : ¬ (need_at (pos a) (pos (suc b)) ≤ n) = λ le. clash (ceil_enough a (suc b) n (omega arith) le) l in
    omega arith
  where
    clash : {x y : ℕ} → x ≤ y → y < x → ⊥
    clash s t = omega arith
short (pos a) (negsuc b) n p h = absurd (omega arith)
short (negsuc a) w n p h = absurd (omega arith)

-- no cut takes an overload away where the slope is 0 or below
never : (e w : ℤ) (t : ℕ) → pos 0 <ℤ e → w ≤ℤ pos 0 → e ≤ℤ (w *ℤ pos t) → ⊥
never e w t = rw (⊖of e, ⊖of w) (simp ⊖s (λ a b c. omega (arith, mul-le-mul_right t b)))

less_zero : (e x : ℤ) → e ≤ℤ x → (e -ℤ x) ≤ℤ pos 0
less_zero e x = rw (⊖of e, ⊖of x) (simp ⊖s (omega arith))

less_within : (e x : ℤ) → (e -ℤ x) ≤ℤ pos 0 → e ≤ℤ x
less_within e x = rw (⊖of e, ⊖of x) (simp ⊖s (omega arith))

-- an overload needs a cut where the cut n is enough
some_need : (e w : ℤ) (n : ℕ) → pos 0 <ℤ e → e ≤ℤ (w *ℤ pos n) → 0 < need_at e w
some_need (pos a) (pos zero) n o h = absurd (never (pos a) (pos 0) n o (le_z_yes tt) h)
some_need (pos a) (pos (suc b)) n o h =
    let out : ¬ (need_at (pos a) (pos (suc b)) ≤ 0) = λ le. none a (suc b) (ceil_enough a (suc b) 0 (omega arith) le) o in
    omega arith
  where
    none : (a b : ℕ) → a ≤ 0 * b → pos 0 <ℤ pos a → ⊥
    none a b l = simp ⊖s (omega arith)
some_need (pos a) (negsuc b) n o h = absurd (never (pos a) (negsuc b) n o (le_z_yes tt) h)
some_need (negsuc a) w n o h = absurd o.lt

module _ (e w : ℤ) where
  pub raise_short : (n q : ℕ) → (w *ℤ pos n) <ℤ e → cond (leb (need_at e w) q) (need_at e w) 0 ≡ raised_to e w q n
  raise_short n q h = by (ltb 0 (need_at e w)) refl (leb (need_at e w) q) refl
    where
      by : (a : Bool) → ltb 0 (need_at e w) ≡ a → (b : Bool) → leb (need_at e w) q ≡ b → cond b (need_at e w) 0 ≡ cond (a && b) (max n (need_at e w)) 0
      by true p true r = omega (arith, short e w n (ltb-true 0 (need_at e w) p) h)
      by true p false r = refl
      by false p true r = omega (arith, ltb-false 0 (need_at e w) p)
      by false p false r = refl

  -- where it is enough, it stays
  pub raise_enough : (n q : ℕ) → pos 0 <ℤ e → n ≤ q → e ≤ℤ (w *ℤ pos n) → n ≡ raised_to e w q n
  raise_enough n q o b h =
      let most = at_least e w n (less_zero e (w *ℤ pos n) h) in
      rw (lt-ltb 0 (need_at e w) (some_need e w n o h), le-leb (need_at e w) q (omega (arith, most))) (omega (arith, most))

-- ---- a constraint more

module _ (e w : ℕ → ℤ) where
  need-more : (k : ℕ) → need (k + 1) e w ≡ max (need k e w) (need_at (e k) (w k))
  unfolding need
  need-more k = ap (λ (x : ℕ). need x e w) {x = k + 1} {y = suc k} (omega arith)

  -- one that is not overloaded leaves the need
  pub need-kept : (k n : ℕ) → n ≡ need k e w → e k ≤ℤ pos 0 → n ≡ need (k + 1) e w
  need-kept k n is h = omega (arith, need-more k, at_least (e k) (w k) 0 (less_zero (e k) (w k *ℤ pos 0) (rw (*ℤ-zero (w k)) h)))

  -- nor do more of them
  need-rest : (k m : ℕ) → ((j : ℕ) → k ≤ j → j < k + m → e j ≤ℤ pos 0) → need k e w ≡ need (k + m) e w
  need-rest k zero h = ap (λ (x : ℕ). need x e w) {x = k} {y = k + 0} (omega arith)
  need-rest k (suc m) h =
      need-kept (k + m) (need k e w) (need-rest k m (λ j a b. h j a (omega arith))) (h (k + m) (omega arith) (omega arith))
      ∙ ap (λ (x : ℕ). need x e w) {x = k + m + 1} {y = k + suc m} (omega arith)

  pub need-before : (k : ℕ) → ((j : ℕ) → j < k → e j ≤ℤ pos 0) → 0 ≡ need k e w
  unfolding need
  need-before k h = need-rest 0 k (λ j a b. h j (omega arith)) ∙ ap (λ (x : ℕ). need x e w) {x = 0 + k} {y = k} (omega arith)

  pub need-behind : (k K : ℕ) → k ≤ K → ((j : ℕ) → k ≤ j → j < K → e j ≤ℤ pos 0) → need k e w ≡ need K e w
  need-behind k K b h = need-rest k (K - k) (λ j a c. h j a (omega arith)) ∙ ap (λ (x : ℕ). need x e w) {x = k + (K - k)} {y = K} (omega arith)

  -- an overloaded one raises it
  module _ (k n q r : ℕ) (raised : r ≡ raised_to (e k) (w k) q n) where
    pub need-raised : n ≡ need k e w → n ≤ q → (r ≡ 0 → ⊥) → (r ≡ need (k + 1) e w) × (r ≤ q)
    need-raised is b some = by (ltb 0 (need_at (e k) (w k))) refl (leb (need_at (e k) (w k)) q) refl
      where
        by : (x : Bool) → ltb 0 (need_at (e k) (w k)) ≡ x → (y : Bool) → leb (need_at (e k) (w k)) q ≡ y → (r ≡ need (k + 1) e w) × (r ≤ q)
        by true p true s =
            let v : r ≡ max n (need_at (e k) (w k)) = rw (p, s) at raised in
            (omega (arith, need-more k), omega (arith, leb-true (need_at (e k) (w k)) q s))
        by true p false s = absurd (some (rw (p, s) at raised))
        by false p y s = absurd (some (rw p at raised))

    -- or there is no cut
    pub need-none : (K : ℕ) → k < K → pos 0 <ℤ e k → r ≡ 0 → closed K e w q 0 ≡ 0
    unfolding closed
    need-none K b o z = by (leb (need K e w) q) refl (enough K e w (need K e w)) refl
      where
        by : (l : Bool) → leb (need K e w) q ≡ l → (m : Bool) → enough K e w (need K e w) ≡ m → cond (l && m) (need K e w) 0 ≡ 0
        by true p true s =
            let at : e k ≤ℤ (w k *ℤ pos (need K e w)) = less_within (e k) (w k *ℤ pos (need K e w)) (enough-all e w K (need K e w) s k b) in
            let some : 0 < need_at (e k) (w k) = some_need (e k) (w k) (need K e w) o at in
            let most : need_at (e k) (w k) ≤ q = omega (arith, need-above e w K k b, leb-true (need K e w) q p) in
            let v : r ≡ max n (need_at (e k) (w k)) = rw (lt-ltb 0 (need_at (e k) (w k)) some, le-leb (need_at (e k) (w k)) q most) at raised in
            absurd (omega arith)
        by true p false s = refl
        by false p m s = refl

  -- all are looked at
  pub need-end : (K n q : ℕ) → n ≡ need K e w → n ≤ q → closed K e w q 0 ≡ cond (enough K e w n) n 0
  unfolding closed
  need-end K n q is b = rw (is, le-leb (need K e w) q (rw is at b))

  -- ---- a cut that is enough so far
  pub enough-turn : (k t : ℕ) → enough k e w t ≡ true → e k ≤ℤ (w k *ℤ pos t) → enough (k + 1) e w t ≡ true
  unfolding enough
  enough-turn k t h a =
      ap (λ (x : ℕ). enough x e w t) {x = k + 1} {y = suc k} (omega arith)
      ∙ rw h (is_true (le_z (e k -ℤ w k *ℤ pos t) (pos 0)) (less_zero (e k) (w k *ℤ pos t) a).le)

  pub enough-fails : (K k t : ℕ) → k < K → (w k *ℤ pos t) <ℤ e k → false ≡ enough K e w t
  enough-fails K k t b h = sym (is_false (enough K e w t) (λ c. clash_ℤ {a = w k *ℤ pos t} {b = e k} h (less_within (e k) (w k *ℤ pos t) (enough-all e w K t c k b))))

  pub enough-end : (K k t : ℕ) → k ≡ K → enough k e w t ≡ true → true ≡ enough K e w t
  enough-end K k t is h = sym (ap (λ (x : ℕ). enough x e w t) (sym is) ∙ h)

-- ---- nothing hangs on the constraints from n on

module _ (e w e' w' : ℕ → ℤ) where
  need-cong : (n : ℕ) → ((k : ℕ) → k < n → e k ≡ e' k) → ((k : ℕ) → k < n → w k ≡ w' k) → need n e w ≡ need n e' w'
  unfolding need
  need-cong zero he hw = refl
  need-cong (suc n) he hw = λ i. max (need-cong n (λ k b. he k (omega arith)) (λ k b. hw k (omega arith)) i) (need_at (he n (omega arith) i) (hw n (omega arith) i))

  enough-cong : (n t : ℕ) → ((k : ℕ) → k < n → e k ≡ e' k) → ((k : ℕ) → k < n → w k ≡ w' k) → enough n e w t ≡ enough n e' w' t
  unfolding enough
  enough-cong zero t he hw = refl
  enough-cong (suc n) t he hw = λ i. enough-cong n t (λ k b. he k (omega arith)) (λ k b. hw k (omega arith)) i && le_z (he n (omega arith) i -ℤ hw n (omega arith) i *ℤ pos t) (pos 0)

  pub closed-cong : (n q none : ℕ) → ((k : ℕ) → k < n → e k ≡ e' k) → ((k : ℕ) → k < n → w k ≡ w' k) → closed n e w q none ≡ closed n e' w' q none
  unfolding closed
  closed-cong n q none he hw = rw (need-cong n he hw, enough-cong n (need n e' w') he hw)
