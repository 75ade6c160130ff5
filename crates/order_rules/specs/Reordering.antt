-- Document 02, paper 14: "any reordering of the contracts keeps flows, overload set, sum and exact total". What is kept, by the rules, the worst shortfall with it;
-- of cents and of what the entries answer: crate reordering. Statements only.
use Rattle.std.specs.Prelude.{◌≡◌, ◌↔◌, ℕ, length, ℤ}
use mathlib.Core.List.{List, Perm}
use Rattle.tariff.specs.declared.contracts.Contract.{Contract}
use Rattle.tariff.specs.declared.contracts.Period.{Period}
use Rattle.tariff.specs.declared.processes.Process.{Process}
use Rattle.tariff.specs.Units.{Factors, Grid}
use Rattle.tariff.specs.ContractRules.{of_period}
use Rattle.tariff.specs.Settlement.{exact_total}
use Rattle.tariff.specs.Feasibility.{total_flow}
use Rattle.tariff.specs.Shortfall.{IsWorst}
use Rattle.test_rules.specs.Theorems.{SameTest}

-- "any reordering of the contracts": the same ones, each as often, in any order
abbrev pub Reordered : List Contract → List Contract → Type 0
Reordered cs ds = Perm cs ds

-- of two lists of contracts: the same flow on every constraint, and as many contracts counted
pub record SameFlows (f : Factors) (cs ds : List Contract) : Type 0 where
  pub flows-same : (k : ℕ) → total_flow f cs k ≡ total_flow f ds k
  pub counted_same : length cs ≡ length ds

-- THE STATEMENTS, for every grid, process, period and price list, and any two lists of contracts
pub record Reordering : Type 0 where
  pub reorder_keeps_flows : (f : Factors) (t : Period) (cs ds : List Contract) → Reordered cs ds → SameFlows f (of_period t cs) (of_period t ds)
  pub reorder_keeps_overloads : (g : Grid) (process : Process) (t : Period) (cs ds : List Contract) → Reordered cs ds
      → SameTest g process (of_period t cs) (of_period t ds)
  pub reorder_keeps_exact_total : (f : Factors) (p : List ℕ) (t : Period) (cs ds : List Contract) → Reordered cs ds
      → exact_total f p (of_period t cs) ≡ exact_total f p (of_period t ds)
  -- so the worst shortfall is the same number
  pub reorder_keeps_worst : (g : Grid) (process : Process) (t : Period) (cs ds : List Contract) → Reordered cs ds
      → (w : ℤ) → IsWorst g process (of_period t cs) w ↔ IsWorst g process (of_period t ds) w
