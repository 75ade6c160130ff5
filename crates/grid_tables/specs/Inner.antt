-- What inner functions and proofs say of lent tables: those that no check refuses, what a search looks at, and the checks of an hour's tables.
use Rattle.std.specs.Prelude.{◌≡◌, List, [], ◌∷◌, ℕ, ◌*◌, ◌≤◌, ◌<◌, length, get_or, ℤ, pos, nat_abs}
use Rattle.grid_tables.specs.TableChecks.{hour_tables_with}
use Rattle.tariff.specs.Units.{factors_of, factor, max_factor, max_nodes, max_constraints, max_price}
use Rattle.tariff.specs.Refusals.{Check}
use Rattle.tariff.specs.Checks.{period_number, short_table}
use Rattle.tariff.specs.Inner.{FactorsInRange}

-- a table of factors for n nodes and k constraints
pub record GoodFactors (n k : ℕ) (table : List ℤ) : Type 0 where
  pub nodes-few : n ≤ max_nodes
  pub few : k ≤ max_constraints
  pub long : n * k ≤ length table
  pub in_range : FactorsInRange (factors_of n k table)

-- the factors of node i on each of the k constraints
pub record RowOf (n k : ℕ) (table : List ℤ) (i : ℕ) (row : List ℤ) : Type 0 where
  pub long : length row ≡ k
  pub cell : (j : ℕ) → j < k → get_or row j (pos 0) ≡ factor (factors_of n k table) i j
  pub sized : (j : ℕ) → j < k → nat_abs (get_or row j (pos 0)) ≤ max_factor

-- a table of limits or prices, one for each of k constraints and none above `most`
pub record GoodCells (most k : ℕ) (table : List ℕ) : Type 0 where
  pub long : k ≤ length table
  pub sized : (j : ℕ) → j < k → get_or table j 0 ≤ most

-- the tables of an hour
pub record Hour (n k : ℕ) (factors : List ℤ) (prices : List ℕ) : Type 0 where
  pub good-factors : GoodFactors n k factors
  pub good-prices : GoodCells max_price k prices

-- 2, 3, 17, 9, 7, 15, with `place` cells for an answer of one cell a node
unfoldable pub hour_table_checks : ℕ → ℕ → ℕ → List ℤ → List ℕ → ℕ → List Check
hour_table_checks n k period factors prices place = hour_tables_with (period_number period ∷ []) (short_table place n ∷ []) n k factors prices
