-- A size shared among n places by weight: each has its proportion rounded down, and what is left over goes one each to the largest remainders, of equal ones
-- to the lower place. Definitions only.
use Rattle.std.specs.Prelude.{Bool, cond, ◌||◌, ◌&&◌, ℕ, ◌+◌, ◌-◌, ◌*◌, ◌/◌, ◌%◌, ltb, eqb}
use Rattle.lists.specs.Sets.{count_of}
use Rattle.largest_remainders.specs.Ranks.{add_to, rank_of}

-- "the largest remainders .., then the lower number": j comes before i
abbrev pub before_by : (ℕ → ℕ) → ℕ → ℕ → Bool
before_by rest j i = ltb (rest i) (rest j) || (eqb (rest j) (rest i) && ltb j i)

module _ (n : ℕ) (weight : ℕ → ℕ) where
  unfoldable pub total_weight : ℕ
  total_weight = add_to n weight

  module _ (size : ℕ) where
    -- size × weight i / total, rounded down, and what that cuts off, in parts of the total
    unfoldable pub whole : ℕ → ℕ
    whole i = size * weight i / total_weight

    unfoldable pub rest : ℕ → ℕ
    rest i = size * weight i % total_weight

    -- what the wholes leave of the size
    unfoldable pub leftover : ℕ
    leftover = size - add_to n whole

    -- how many places come before i
    unfoldable pub rank : ℕ → ℕ
    rank i = rank_of n (before_by rest) i

    -- i is given one of what is left over
    abbrev pub given_one : ℕ → Bool
    given_one i = ltb (rank i) leftover

    unfoldable pub share : ℕ → ℕ
    share i = whole i + cond (given_one i) 1 0

    -- of how many places the rounding cuts something off
    unfoldable pub positives : ℕ
    positives = count_of n (λ i. ltb 0 (rest i))
