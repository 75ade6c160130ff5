-- Sets of numbers below n as one number: bit k is set where f k holds.
use Rattle.std.specs.Prelude.{Bool, true, false, cond, ℕ, zero, suc, ◌+◌, ◌^◌, ◌<◌, ◌≡◌}

unfoldable pub set_of : ℕ → (ℕ → Bool) → ℕ
set_of zero f = 0
set_of (suc n) f = set_of n f + cond (f n) (2 ^ n) 0

-- how many k below n have f k
unfoldable pub count_of : ℕ → (ℕ → Bool) → ℕ
count_of zero f = 0
count_of (suc n) f = count_of n f + cond (f n) 1 0

-- the lowest k below n that has f k, and n where none has
unfoldable pub lowest_of : ℕ → (ℕ → Bool) → ℕ
lowest_of zero f = 0
lowest_of (suc n) f = cond (f 0) 0 (suc (lowest_of n (λ k. f (suc k))))

-- where the set is not empty, the lowest is in it and none below it is
pub record Lowest (n : ℕ) (f : ℕ → Bool) (k : ℕ) : Type 0 where
  pub inside : k < n
  pub holds : f k ≡ true
  pub least : (j : ℕ) → j < k → f j ≡ false
