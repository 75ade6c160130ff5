-- What inner functions say: flows that can be added to cells, and cells that they were added to.
use Rattle.std.specs.Prelude.{ℕ, ◌+◌, ◌^◌, ◌≤◌, ◌<◌, List, length, get_or, ℤ, pos, nat_abs, ◌+ℤ◌}
use Rattle.lists.specs.Lists.{list_to}
use Rattle.tariff.specs.Units.{max_constraints}
use Rattle.test_rules.specs.declared.Flows.{Flows}

-- flows on k constraints, and cells with room for the sums
pub record Addable (k : ℕ) (carried : Flows) (cells : List ℤ) : Type 0 where
  pub few : k ≤ max_constraints
  pub long : k ≤ length cells
  pub sums_small : (j : ℕ) → j < k → nat_abs (get_or cells j (pos 0)) + nat_abs (get_or carried.flows j (pos 0)) < 2 ^ 63

-- each cell with its flow
abbrev pub with_flows : ℕ → Flows → List ℤ → List ℤ
with_flows k carried cells = list_to k (λ (j : ℕ). get_or cells j (pos 0) +ℤ get_or carried.flows j (pos 0))
