-- What is left over by rounding down: its remainders' sum, at most as many as there are positive remainders, and who comes last.
use mathlib.Core.Path.{◌≡◌, ap}
use mathlib.Core.Bool.{Bool, true, false}
use mathlib.Core.Logic.{inl}
use Prim.Native.Nat.{ℕ, ◌+◌, ◌*◌, ◌≤◌, ◌<◌}
use native.Mathlib.Nat.{div-add-mod', mod-lt, le_of_mul-le-mul_right}
use native.Mathlib.Omega.{arith}
use lib.Dec.{T, ltb, ltb→lt, lt→ltb}
use Rattle.largest_remainders.specs.Ranks.{add_to, rank_of}
use Rattle.largest_remainders.specs.Shares.{before_by, total_weight, whole, rest, leftover, rank, positives}
use Rattle.largest_remainders.proofs.Counting.{bit, add_to-mono, add_to-cong, add_to-plus, add_to-times, count-is_sum, count-mono, count-all}
use Rattle.largest_remainders.proofs.Order.{later}

module _ (n : ℕ) (weight : ℕ → ℕ) (size : ℕ) (some : 0 < total_weight n weight) where
  pub split : (i : ℕ) → whole n weight size i * total_weight n weight + rest n weight size i ≡ size * weight i
  unfolding whole rest
  split i = div-add-mod' (size * weight i) (total_weight n weight)

  pub rest_lt : (i : ℕ) → rest n weight size i < total_weight n weight
  unfolding rest
  rest_lt i = mod-lt (size * weight i) some

  -- the wholes and the rests together are the size
  sums : add_to n (whole n weight size) * total_weight n weight + add_to n (rest n weight size) ≡ size * total_weight n weight
  unfolding total_weight
  sums =
      omega (
        arith,
        add_to-times n (whole n weight size) (total_weight n weight),
        add_to-plus n (λ i. whole n weight size i * total_weight n weight) (rest n weight size),
        add_to-cong n {f = λ i. whole n weight size i * total_weight n weight + rest n weight size i} {g = λ i. weight i * size} (λ i b. omega (arith, split i)),
        add_to-times n weight size,
      )

  pub wholes_le : add_to n (whole n weight size) ≤ size
  wholes_le = le_of_mul-le-mul_right {k = total_weight n weight} (omega (arith, sums)) some

  pub leftover-is : add_to n (whole n weight size) + leftover n weight size ≡ size
  unfolding leftover
  leftover-is = omega (arith, wholes_le)

  pub leftover-rests : leftover n weight size * total_weight n weight ≡ add_to n (rest n weight size)
  leftover-rests = omega (arith, sums, ap (λ (x : ℕ). x * total_weight n weight) leftover-is)

  -- a positive remainder is at most total − 1
  pub rests_le : add_to n (rest n weight size) + positives n weight size ≤ positives n weight size * total_weight n weight
  unfolding positives
  rests_le =
      omega (
        arith,
        count-is_sum n (λ i. ltb 0 (rest n weight size i)),
        add_to-plus n (rest n weight size) (λ i. bit (ltb 0 (rest n weight size i))),
        add_to-times n (λ i. bit (ltb 0 (rest n weight size i))) (total_weight n weight),
        add_to-mono n {f = λ i. rest n weight size i + bit (ltb 0 (rest n weight size i))} {g = λ i. bit (ltb 0 (rest n weight size i)) * total_weight n weight}
            (λ i b. one (rest n weight size i) (rest_lt i)),
        ap (λ (x : ℕ). x * total_weight n weight) (count-is_sum n (λ i. ltb 0 (rest n weight size i))),
      )
    where
      one : (r : ℕ) → r < total_weight n weight → r + bit (ltb 0 r) ≤ bit (ltb 0 r) * total_weight n weight
      one r h = by (ltb 0 r) (lt→ltb 0 r)
        where
          by : (b : Bool) → (0 < r → T b) → r + bit b ≤ bit b * total_weight n weight
          by true f = omega arith
          by false f = omega arith

  pub leftover-le : leftover n weight size ≤ positives n weight size
  leftover-le = le_of_mul-le-mul_right {k = total_weight n weight} (omega (arith, rests_le, leftover-rests)) some

  pub leftover-small : leftover n weight size ≤ n
  unfolding positives
  leftover-small = omega (arith, leftover-le, count-all n, count-mono n (λ i. ltb 0 (rest n weight size i)) (λ i. true) (λ i b t. tt))

  -- every positive remainder comes before one of 0
  pub zero_last : (i : ℕ) → rest n weight size i ≡ 0 → positives n weight size ≤ rank n weight size i
  unfolding positives rank rank_of
  zero_last i e = count-mono n (λ j. ltb 0 (rest n weight size j)) (λ j. before_by (rest n weight size) j i)
      (λ j b t. later (rest n weight size) j i (inl (omega (arith, ltb→lt 0 (rest n weight size j) t))))
