-- THE THEOREMS of largest remainders. The counting law, over any n and any different keys; and of shares by weight: they add up to the size, each is less than
-- one from its exact proportion, and what is left over goes to the largest remainders.
use mathlib.Core.Path.{◌≡◌, ap}
use mathlib.Core.Bool.{Bool, true, false, not}
use mathlib.Core.Logic.{◌⊎◌, inl, inr, ⊎_elim}
use Prim.Native.Nat.{ℕ, ◌+◌, ◌*◌, ◌≤◌, ◌<◌}
use native.Mathlib.Nat.{lt_of_mul-lt-mul_right, eq-or-lt_of_le, eq-zero-or-pos}
use native.Mathlib.Omega.{arith}
use borrow.Author.Tests.{lt-ltb, le-ltb}
use lib.Dec.{T, leb, ltb, leb→le, le→leb, nleb→lt, ltb→lt, lt→ltb, nltb→le, not_T}
use Rattle.lists.specs.Sets.{count_of}
use Rattle.largest_remainders.specs.Ranks.{add_to, rank_of, above_by, Different, keys_from_of}
use Rattle.largest_remainders.specs.Shares.{before_by, total_weight, whole, rest, leftover, rank, given_one, share, positives}
use Rattle.largest_remainders.proofs.Counting.{bit, add_to-plus, count-is_sum, count-mono, count-strict}
use Rattle.largest_remainders.proofs.Ranking.{ranked, rank-first, keys_ordered}
use Rattle.largest_remainders.proofs.Order.{rests_ordered}
use Rattle.largest_remainders.proofs.Sharing.{split, rest_lt, leftover-is, leftover-rests, rests_le, leftover-le, leftover-small, zero_last}

-- THE COUNTING LAW: exactly l of n different keys have fewer than l keys above them
pub counting_law : (n : ℕ) (key : ℕ → ℕ) → Different n key → (l : ℕ) → l ≤ n → count_of n (λ i. ltb (rank_of n (above_by key) i) l) ≡ l
counting_law n key apart = ranked n (above_by key) (keys_ordered n key apart)

-- they are those from x on, where exactly l keys are x or above
pub threshold_law : (n : ℕ) (key : ℕ → ℕ) (x l : ℕ) → keys_from_of n key x ≡ l → (i : ℕ) → i < n → ltb (rank_of n (above_by key) i) l ≡ leb x (key i)
unfolding rank_of
threshold_law n key x l e i b = by (leb x (key i)) (λ t. leb→le x (key i) t) (λ t. nleb→lt x (key i) t)
  where
    -- those above key i are among those from x on, and i is not one of them
    fewer : x ≤ key i → count_of n (λ j. ltb (key i) (key j)) < l
    fewer h =
        omega (
          arith,
          e,
          count-strict n (λ j. ltb (key i) (key j)) (λ j. leb x (key j)) i b
              (λ j c t. le→leb x (key j) (omega (arith, ltb→lt (key i) (key j) t)))
              (not_T (ltb (key i) (key i)) (λ t. never (key i) (ltb→lt (key i) (key i) t))) (le→leb x (key i) h),
        )
      where
        never : (k : ℕ) → k < k → ⊥
        never k h = omega arith

    -- those from x on are all above key i
    enough : key i < x → l ≤ count_of n (λ j. ltb (key i) (key j))
    enough h = omega (arith, e, count-mono n (λ j. leb x (key j)) (λ j. ltb (key i) (key j)) (λ j c t. lt→ltb (key i) (key j) (omega (arith, leb→le x (key j) t))))

    by : (a : Bool) → (T a → x ≤ key i) → (T (not a) → key i < x) → ltb (count_of n (λ j. ltb (key i) (key j))) l ≡ a
    by true f g = lt-ltb (count_of n (λ j. ltb (key i) (key j))) l (fewer (f tt))
    by false f g = le-ltb (count_of n (λ j. ltb (key i) (key j))) l (enough (g tt))

module _ (n : ℕ) (weight : ℕ → ℕ) (size : ℕ) (some : 0 < total_weight n weight) where
  pub few : (leftover n weight size ≡ 0) ⊎ (leftover n weight size < positives n weight size)
  few = ⊎_elim (λ e. inl (none e)) inr (eq-or-lt_of_le (leftover-le n weight size some))
    where
      none : leftover n weight size ≡ positives n weight size → leftover n weight size ≡ 0
      none e = omega (arith, rests_le n weight size some, leftover-rests n weight size some, ap (λ (x : ℕ). x * total_weight n weight) e)

  pub to_positive : (i : ℕ) → T (given_one n weight size i) → 0 < rest n weight size i
  to_positive i t = ⊎_elim (λ e. absurd (clash (zero_last n weight size some i e))) (λ p. p) (eq-zero-or-pos (rest n weight size i))
    where
      clash : positives n weight size ≤ rank n weight size i → ⊥
      clash h = omega (arith, leftover-le n weight size some, ltb→lt (rank n weight size i) (leftover n weight size) t)

  pub adds-up : add_to n (share n weight size) ≡ size
  unfolding share rank
  adds-up =
      omega (
        arith,
        add_to-plus n (whole n weight size) (λ i. bit (given_one n weight size i)),
        count-is_sum n (given_one n weight size),
        ranked n (before_by (rest n weight size)) (rests_ordered (rest n weight size) n) (leftover n weight size) (leftover-small n weight size some),
        leftover-is n weight size some,
      )

  pub near : (i : ℕ) → (share n weight size i * total_weight n weight < size * weight i + total_weight n weight)
      × (size * weight i < share n weight size i * total_weight n weight + total_weight n weight)
  unfolding share
  near i = by (given_one n weight size i) (to_positive i)
    where
      by : (b : Bool) → (T b → 0 < rest n weight size i)
          → ((whole n weight size i + bit b) * total_weight n weight < size * weight i + total_weight n weight)
          × (size * weight i < (whole n weight size i + bit b) * total_weight n weight + total_weight n weight)
      by true f = omega (arith, f tt, split n weight size some i, rest_lt n weight size some i, some)
      by false f = omega (arith, split n weight size some i, rest_lt n weight size some i, some)

  pub no_weight : (i : ℕ) → weight i ≡ 0 → share n weight size i ≡ 0
  no_weight i e =
      omega (arith, lt_of_mul-lt-mul_right (total_weight n weight) {m = share n weight size i} {n = 1} (omega (arith, (near i).0, ap (λ (x : ℕ). size * x) e)))

  pub no_size : size ≡ 0 → (i : ℕ) → share n weight size i ≡ 0
  no_size e i =
      omega (arith, lt_of_mul-lt-mul_right (total_weight n weight) {m = share n weight size i} {n = 1} (omega (arith, (near i).0, ap (λ (x : ℕ). x * weight i) e)))

  pub largest_first : (i j : ℕ) → i < n → j < n → T (given_one n weight size i) → T (not (given_one n weight size j)) → T (before_by (rest n weight size) i j)
  unfolding rank
  largest_first i j b c p q =
      rank-first n (before_by (rest n weight size)) (rests_ordered (rest n weight size) n) i j b c
      (omega (arith, ltb→lt (rank n weight size i) (leftover n weight size) p, nltb→le (rank n weight size j) (leftover n weight size) q))
