-- What the functions say: excesses as cells, sets of overloaded constraints by number, and the constraints listed.
use Rattle.std.specs.Prelude.{◌≡◌, Bool, true, cond, ◌&&◌, List, ℕ, ◌+◌, ◌*◌, ◌/◌, ◌%◌, ◌^◌, ◌≤◌, ◌<◌, eqb, leb, ltb, length, get_or, ℤ, pos, nat_abs}
use Rattle.std.specs.Int.Signed.{lt_z}
use Rattle.integers.specs.Sums.{max0}
use Rattle.lists.specs.Sets.{count_of}
use Rattle.tariff.specs.Units.{max_contracts, max_flow}
use Rattle.tariff.specs.Inner.{max_released}
use Rattle.test_excesses.specs.Inner.{cell_at}

-- the largest size of an excess
abbrev pub max_excess : ℕ
max_excess = max_flow * max_contracts + max_released

-- the excesses of k constraints
pub record Excesses (k : ℕ) (cells : List ℤ) : Type 0 where
  pub few : k ≤ 64
  pub long : k ≤ length cells
  pub sized : (j : ℕ) → j < k → nat_abs (cell_at cells j) ≤ max_excess

-- figures among which the largest is looked for
pub record Figures (k : ℕ) (cells : List ℤ) : Type 0 where
  pub few : k ≤ 1024
  pub long : k ≤ length cells
  pub sized : (j : ℕ) → j < k → nat_abs (cell_at cells j) < 2 ^ 62

-- whether the excess is above 0, and whether the constraint is in set m of those where it is
abbrev pub above_in : List ℤ → ℕ → Bool
above_in cells j = lt_z (pos 0) (cell_at cells j)

abbrev pub set_in : List ℤ → ℕ → ℕ → Bool
set_in cells m j = above_in cells j && eqb (m / 2 ^ count_of j (above_in cells) % 2) 1

-- k noted behind the first of a list, or not; the constraints below k that b holds of, listed in their order
pub record Noted (b : Bool) (k count : ℕ) (old new : List ℕ) (r : ℕ) : Type 0 where
  pub length-kept : length new ≡ length old
  pub counts : r ≡ count + cond b 1 0
  pub kept : (j : ℕ) → j < count → get_or new j 0 ≡ get_or old j 0
  pub noted : b ≡ true → get_or new count 0 ≡ k

pub record Listed (k : ℕ) (b : ℕ → Bool) (over : List ℕ) : Type 0 where
  pub at : (j : ℕ) → j < k → b j ≡ true → get_or over (count_of j b) 0 ≡ j
  pub below : (s : ℕ) → s < count_of k b → get_or over s 0 < k

-- the highest price where the excess is above 0, on the constraints from one on, up to another
abbrev pub chosen_in : List ℤ → ℕ → ℕ → ℕ → Bool
chosen_in cells from upto j = lt_z (pos 0) (cell_at cells j) && (leb from j && ltb j upto)

-- what of the largest excess is above 0, where there is one
abbrev pub top_in : ℕ → List ℤ → ℕ → ℤ
top_in k cells largest = cond (ltb largest k) (max0 (cell_at cells largest)) (pos 0)
