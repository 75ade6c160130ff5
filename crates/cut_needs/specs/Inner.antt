-- What the functions say: a contract's cut by a table of factors and the excesses, both as cells.
use Rattle.std.specs.Prelude.{List, ℕ, ◌+◌, ◌*◌, ◌^◌, ◌≤◌, ◌<◌, length, get_or, ℤ, pos, nat_abs, ◌-ℤ◌, ◌≤ℤ◌}
use Rattle.tariff.specs.declared.contracts.Contract.{Contract}
use Rattle.tariff.specs.declared.contracts.Kind.{Kind}
use Rattle.tariff.specs.ContractRules.{counted}
use Rattle.cut_rules.specs.Inner.{closed}

abbrev pub cell_at : List ℤ → ℕ → ℤ
cell_at cells j = get_or cells j (pos 0)

-- cells of k constraints that flows can be compared with
pub record Excesses (k : ℕ) (cells : List ℤ) : Type 0 where
  pub long : k ≤ length cells
  pub sized : (j : ℕ) → j < k → nat_abs (cell_at cells j) < 2 ^ 63

-- of k constraints those that are overloaded stand from one on, up to another
pub record Overloads (k from upto : ℕ) (cells : List ℤ) : Type 0 where
  pub from_below : from ≤ k
  pub upto_below : upto ≤ k
  pub none_before : (j : ℕ) → j < from → cell_at cells j ≤ℤ pos 0
  pub none-behind : (j : ℕ) → upto ≤ j → j < k → cell_at cells j ≤ℤ pos 0

-- the flow of one thousandth on constraint j, as it counts, where the factors of source and sink begin at these cells of a table
unfoldable pub slope_from : List ℤ → ℕ → ℕ → Kind → ℕ → ℤ
slope_from table source sink kind j = counted kind (cell_at table (source + j) -ℤ cell_at table (sink + j))

-- that of contract c, by a table with k factors a node
abbrev pub slope_in : ℕ → List ℤ → Contract → ℕ → ℤ
slope_in k table c = slope_from table (c.source * k) (c.sink * k) c.kind

-- the least cut of contract c, and 0 for none
unfoldable pub cut_in : ℕ → List ℤ → List ℤ → Contract → ℕ
cut_in k table excesses c = closed k (cell_at excesses) (slope_in k table c) c.quantity.0 0
