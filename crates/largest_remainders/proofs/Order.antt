-- The order of largest remainders, then the lower place, is strict, and is that of one number for both.
use mathlib.Core.Path.{◌≡◌, sym, ap₂, subst, ◌∙◌}
use mathlib.Core.Bool.{Bool, true, false, ◌||◌, ◌&&◌}
use mathlib.Core.Logic.{◌⊎◌, inl, inr, ⊎_elim}
use Prim.Native.Nat.{ℕ, suc, ◌+◌, ◌-◌, ◌*◌, ◌≤◌, ◌<◌}
use native.Mathlib.Nat.{mul-le-mul_right}
use native.Mathlib.Omega.{arith}
use lib.Dec.{T, ltb, eqb, ltb→lt, lt→ltb, eqb→eq, eqb_refl, not_T}
use Rattle.largest_remainders.specs.Ranks.{rank_of, above_by, Different}
use Rattle.largest_remainders.specs.Shares.{before_by}
use Rattle.largest_remainders.specs.Inner.{remainder_key}
use Rattle.largest_remainders.proofs.Counting.{bit_same, count_same}
use Rattle.largest_remainders.proofs.Ranking.{Ordered, tri}

-- x and place j against y and place i
abbrev Earlier : ℕ → ℕ → ℕ → ℕ → Type 0
Earlier x j y i = (y < x) ⊎ ((x ≡ y) × (j < i))

module _ (rest : ℕ → ℕ) where
  pub earlier : (j i : ℕ) → T (before_by rest j i) → Earlier (rest j) j (rest i) i
  earlier j i = by (ltb (rest i) (rest j)) (eqb (rest j) (rest i)) (ltb j i) (ltb→lt (rest i) (rest j)) (eqb→eq (rest j) (rest i)) (ltb→lt j i)
    where
      by : (a b c : Bool) → (T a → rest i < rest j) → (T b → rest j ≡ rest i) → (T c → j < i) → T (a || (b && c)) → Earlier (rest j) j (rest i) i
      by true b c f g h t = inl (f tt)
      by false true true f g h t = inr (g tt, h tt)
      by false true false f g h t = absurd t
      by false false c f g h t = absurd t

  pub later : (j i : ℕ) → Earlier (rest j) j (rest i) i → T (before_by rest j i)
  later j i =
      by (ltb (rest i) (rest j)) (eqb (rest j) (rest i)) (ltb j i) (lt→ltb (rest i) (rest j))
      (λ e. subst (λ (x : ℕ). T (eqb (rest j) x)) e (eqb_refl (rest j))) (lt→ltb j i)
    where
      by : (a b c : Bool) → (rest i < rest j → T a) → (rest j ≡ rest i → T b) → (j < i → T c) → Earlier (rest j) j (rest i) i → T (a || (b && c))
      by true b c f g h t = tt
      by false true true f g h t = tt
      by false true false f g h t = ⊎_elim f (λ p. h p.1) t
      by false false c f g h t = ⊎_elim f (λ p. g p.0) t

  pub rests_ordered : (n : ℕ) → Ordered n (before_by rest)
  rests_ordered n = record {
    never = λ i. not_T (before_by rest i i) (λ t. no (rest i) i (earlier i i t));
    chain = λ i j k p q. later i k (trans (rest i) i (rest j) j (rest k) k (earlier i j p) (earlier j k q));
    either = λ i j b c. either_of i j (tri (rest j) (rest i)) (tri i j);
  }
    where
      no : (x i : ℕ) → Earlier x i x i → ⊥
      no x i t = ⊎_elim (λ h. omega arith) (λ h. omega arith) t

      trans : (x i y j z k : ℕ) → Earlier x i y j → Earlier y j z k → Earlier x i z k
      trans x i y j z k (inl p) (inl q) = inl (omega arith)
      trans x i y j z k (inl p) (inr q) = inl (omega arith)
      trans x i y j z k (inr p) (inl q) = inl (omega arith)
      trans x i y j z k (inr p) (inr q) = inr (omega arith)

      either_of : (i j : ℕ) → (rest j ≡ rest i) ⊎ (T (ltb (rest j) (rest i)) ⊎ T (ltb (rest i) (rest j))) → (i ≡ j) ⊎ (T (ltb i j) ⊎ T (ltb j i))
          → (i ≡ j) ⊎ (T (before_by rest i j) ⊎ T (before_by rest j i))
      either_of i j (inl e) (inl s) = inl s
      either_of i j (inl e) (inr (inl l)) = inr (inl (later i j (inr (sym e, ltb→lt i j l))))
      either_of i j (inl e) (inr (inr l)) = inr (inr (later j i (inr (e, ltb→lt j i l))))
      either_of i j (inr (inl h)) s = inr (inl (later i j (inl (ltb→lt (rest j) (rest i) h))))
      either_of i j (inr (inr h)) s = inr (inr (later j i (inl (ltb→lt (rest i) (rest j) h))))

  pub by_key : (w j i : ℕ) → j < w → i < w → before_by rest j i ≡ above_by (remainder_key rest w) j i
  by_key w j i b c = bit_same (before_by rest j i) (above_by (remainder_key rest w) j i)
      (λ t. lt→ltb (remainder_key rest w i) (remainder_key rest w j) (there (rest j) (rest i) (earlier j i t)))
      (λ t. later j i (back (rest j) (rest i) (ltb→lt (remainder_key rest w i) (remainder_key rest w j) t) (tri (rest j) (rest i))))
    where
      there : (x y : ℕ) → Earlier x j y i → y * w + (w - suc i) < x * w + (w - suc j)
      there x y (inl h) = omega (arith, mul-le-mul_right w h)
      there x y (inr h) = rw h.0 (omega arith)

      back : (x y : ℕ) → y * w + (w - suc i) < x * w + (w - suc j) → (x ≡ y) ⊎ (T (ltb x y) ⊎ T (ltb y x)) → Earlier x j y i
      back x y h (inl e) = inr (e, less (rw e at h))
        where
          less : y * w + (w - suc i) < y * w + (w - suc j) → j < i
          less l = omega arith
      back x y h (inr (inl l)) = absurd (omega (arith, mul-le-mul_right w (ltb→lt x y l)))
      back x y h (inr (inr l)) = inl (ltb→lt y x l)

  -- no two places have one key
  pub keys_apart : (n w : ℕ) → n ≤ w → Different n (remainder_key rest w)
  keys_apart n w h i j b c e = by (rest i) (rest j) e (tri (rest i) (rest j))
    where
      by : (x y : ℕ) → x * w + (w - suc i) ≡ y * w + (w - suc j) → (x ≡ y) ⊎ (T (ltb x y) ⊎ T (ltb y x)) → i ≡ j
      by x y e (inl s) = let t : y * w + (w - suc i) ≡ y * w + (w - suc j) = rw s at e in omega arith
      by x y e (inr (inl l)) = absurd (omega (arith, mul-le-mul_right w (ltb→lt x y l)))
      by x y e (inr (inr l)) = absurd (omega (arith, mul-le-mul_right w (ltb→lt y x l)))

  -- a key is below the remainders' bound times the places
  pub key_small : (w top i : ℕ) → i < w → rest i < top → remainder_key rest w i < top * w
  key_small w top i b h = omega (arith, mul-le-mul_right w h)

  -- so the rank is that by a table of keys
  pub rank-by_key : (n w : ℕ) (key : ℕ → ℕ) → n ≤ w → ((j : ℕ) → j < n → key j ≡ remainder_key rest w j) → (i : ℕ) → i < n
      → rank_of n (above_by key) i ≡ rank_of n (before_by rest) i
  unfolding rank_of
  rank-by_key n w key h k i b = count_same n (λ j. above_by key j i) (λ j. before_by rest j i)
      (λ j c. ap₂ ltb (k i b) (k j c) ∙ sym (by_key w j i (omega arith) (omega arith)))
