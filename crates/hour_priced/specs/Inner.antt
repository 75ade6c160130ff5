-- What the functions that make the set of constraints that priced a contract say.
use Rattle.std.specs.Prelude.{Bool, List, ℕ, ◌+◌, ◌≤◌, ◌<◌, length, get_or, ltb, ℤ, pos, nat_abs, ◌-ℤ◌}
use Rattle.integers.specs.Sums.{nonzero}
use Rattle.lists.specs.Sets.{set_of}
use Rattle.tariff.specs.Units.{max_factor}

-- n cells from a on, each a factor in range
pub record FactorRow (fs : List ℤ) (a n : ℕ) : Type 0 where
  pub long : a + n ≤ length fs
  pub sized : (j : ℕ) → j < n → nat_abs (get_or fs (a + j) (pos 0)) ≤ max_factor

-- whether the factors behind a and behind b differ at j
abbrev pub differ_at : List ℤ → ℕ → ℕ → ℕ → Bool
differ_at fs a b j = nonzero (get_or fs (a + j) (pos 0) -ℤ get_or fs (b + j) (pos 0))

-- the constraints whose price isn't 0
abbrev pub posted_in : ℕ → List ℕ → ℕ
posted_in k prices = set_of k (λ j. ltb 0 (get_or prices j 0))
