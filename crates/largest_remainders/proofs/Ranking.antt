-- Exactly l of n places have a rank below l, in any strict order of them; the order by n different keys is one.
use mathlib.Core.Path.{◌≡◌, sym, subst}
use mathlib.Core.Bool.{Bool, true, false, not}
use mathlib.Core.Logic.{◌⊎◌, inl, inr, ⊎_elim}
use Prim.Native.Nat.{ℕ, zero, suc, ◌+◌, ◌-◌, ◌≤◌, ◌<◌}
use native.Mathlib.Nat.{eq-or-lt_of_le}
use native.Mathlib.Omega.{arith}
use lib.Dec.{T, ltb, eqb, ltb→lt, lt→ltb, eqb→eq, eqb_refl, not_T}
use Rattle.lists.specs.Sets.{count_of}
use Rattle.largest_remainders.specs.Ranks.{rank_of, above_by, Different}
use Rattle.largest_remainders.proofs.Counting.{bit, add_to-mono, add_to-plus, count-is_sum, count-mono, count-strict, count-all, count_none, count-one}

-- ---- n different ranks below n: exactly l of them are below l

-- what is below l + 1 is below l, or it is l
step-bit : (r l : ℕ) → bit (ltb r (suc l)) ≤ bit (ltb r l) + bit (eqb r l)
step-bit r l = by (ltb r (suc l)) (ltb r l) (eqb r l) (ltb→lt r (suc l)) (lt→ltb r l) (λ e. subst (λ (x : ℕ). T (eqb r x)) e (eqb_refl r))
  where
    by : (a b c : Bool) → (T a → r < suc l) → (r < l → T b) → (r ≡ l → T c) → bit a ≤ bit b + bit c
    by true true c f g h = omega arith
    by true false true f g h = omega arith
    by true false false f g h = absurd (⊎_elim (λ e. h (omega arith)) (λ q. g (omega arith)) (eq-or-lt_of_le (f tt)))
    by false b c f g h = omega arith

module _ (n : ℕ) (rank : ℕ → ℕ) (small : (i : ℕ) → i < n → rank i < n) (apart : Different n rank) where
  under : ℕ → ℕ
  under l = count_of n (λ i. ltb (rank i) l)

  -- one more at most, since at most one place has the rank l
  under_step : (l : ℕ) → under (suc l) ≤ under l + 1
  unfolding under
  under_step l =
      let one : count_of n (λ i. eqb (rank i) l) ≤ 1 =
      count-one n (λ i. eqb (rank i) l) (λ i j b c p q. apart i j b c (same (rank i) (rank j) (eqb→eq (rank i) l p) (eqb→eq (rank j) l q))) in
      omega (
        arith,
        count-is_sum n (λ i. ltb (rank i) (suc l)),
        count-is_sum n (λ i. ltb (rank i) l),
        count-is_sum n (λ i. eqb (rank i) l),
        add_to-plus n (λ i. bit (ltb (rank i) l)) (λ i. bit (eqb (rank i) l)),
        add_to-mono n {f = λ i. bit (ltb (rank i) (suc l))} {g = λ i. bit (ltb (rank i) l) + bit (eqb (rank i) l)} (λ i b. step-bit (rank i) l),
      )
    where
      same : (x y : ℕ) → x ≡ l → y ≡ l → x ≡ y
      same x y p q = omega arith

  -- none is below 0, so at most l are below l
  under_most : (l : ℕ) → under l ≤ l
  unfolding under
  under_most zero = omega (arith, count_none n, count-mono n (λ i. ltb (rank i) 0) (λ i. false) (λ i b p. never (rank i) (ltb→lt (rank i) 0 p)))
    where
      never : (r : ℕ) → r < 0 → T false
      never r h = omega arith
  under_most (suc l) = omega (arith, under_most l, under_step l)

  -- all are below n, so at most d are lost d steps before
  under_least : (d l : ℕ) → l + d ≡ n → n ≤ under l + d
  unfolding under
  under_least zero l e = omega (arith, count-all n, count-mono n (λ i. true) (λ i. ltb (rank i) l) (λ i b p. lt→ltb (rank i) l (omega (arith, small i b))))
  under_least (suc d) l e = omega (arith, under_step l, under_least d (suc l) (omega arith))

  pub exactly : (l : ℕ) → l ≤ n → count_of n (λ i. ltb (rank i) l) ≡ l
  unfolding under
  exactly l h = omega (arith, under_most l, under_least (n - l) l (omega arith))

-- ---- ranks in a strict order of n places

pub record Ordered (n : ℕ) (before : ℕ → ℕ → Bool) : Type 0 where
  pub never : (i : ℕ) → T (not (before i i))
  pub chain : (i j k : ℕ) → T (before i j) → T (before j k) → T (before i k)
  pub either : (i j : ℕ) → i < n → j < n → (i ≡ j) ⊎ (T (before i j) ⊎ T (before j i))

module _ (n : ℕ) (before : ℕ → ℕ → Bool) (o : Ordered n before) where
  pub rank-small : (i : ℕ) → i < n → rank_of n before i < n
  unfolding rank_of
  rank-small i b = omega (arith, count-all n, count-strict n (λ j. before j i) (λ j. true) i b (λ k b p. tt) (o.never i) tt)

  -- an earlier place has a lower rank
  pub rank_less : (i j : ℕ) → i < n → T (before i j) → rank_of n before i < rank_of n before j
  unfolding rank_of
  rank_less i j b p = count-strict n (λ k. before k i) (λ k. before k j) i b (λ k c q. o.chain k i j q p) (o.never i) p

  pub rank-apart : Different n (rank_of n before)
  rank-apart i j b c e =
      ⊎_elim (λ s. s) (λ d. ⊎_elim (λ p. absurd (less (rank_less i j b p))) (λ p. absurd (more (rank_less j i c p))) d) (o.either i j b c)
    where
      less : rank_of n before i < rank_of n before j → ⊥
      less h = omega arith

      more : rank_of n before j < rank_of n before i → ⊥
      more h = omega arith

  -- a lower rank is an earlier place
  pub rank-first : (i j : ℕ) → i < n → j < n → rank_of n before i < rank_of n before j → T (before i j)
  rank-first i j b c h = ⊎_elim (λ s. absurd (same s)) (λ d. ⊎_elim (λ p. p) (λ p. absurd (more (rank_less j i c p))) d) (o.either i j b c)
    where
      same : i ≡ j → ⊥
      same s = let z : rank_of n before j < rank_of n before j = rw s at h in omega arith

      more : rank_of n before j < rank_of n before i → ⊥
      more l = omega arith

  pub ranked : (l : ℕ) → l ≤ n → count_of n (λ i. ltb (rank_of n before i) l) ≡ l
  ranked = exactly n (rank_of n before) rank-small rank-apart

-- ---- ranks by keys

-- of two numbers one is below the other, or they are the same
pub tri : (x y : ℕ) → (x ≡ y) ⊎ (T (ltb x y) ⊎ T (ltb y x))
tri x y = by (ltb x y) (ltb y x) (lt→ltb x y) (lt→ltb y x)
  where
    by : (a b : Bool) → (x < y → T a) → (y < x → T b) → (x ≡ y) ⊎ (T a ⊎ T b)
    by true b f g = inr (inl tt)
    by false true f g = inr (inr tt)
    by false false f g = inl (omega arith)

module _ (n : ℕ) (key : ℕ → ℕ) (apart : Different n key) where
  pub keys_ordered : Ordered n (above_by key)
  keys_ordered = record {
    never = λ i. not_T (ltb (key i) (key i)) (λ t. no (key i) (ltb→lt (key i) (key i) t));
    chain = λ i j k p q. lt→ltb (key k) (key i) (omega (arith, ltb→lt (key j) (key i) p, ltb→lt (key k) (key j) q));
    either = λ i j b c. ⊎_elim (λ e. inl (sym (apart j i c b e))) inr (tri (key j) (key i));
  }
    where
      no : (x : ℕ) → x < x → ⊥
      no x h = omega arith
