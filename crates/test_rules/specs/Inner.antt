-- What the inner functions of the test say: what is carried, what a step asks, and what a verdict gives.
use Rattle.std.specs.Prelude.{◌≡◌, List, ℕ, ◌*◌, ◌^◌, ◌≤◌, ◌<◌, length, get_or, ℤ, pos, nat_abs, ◌+ℤ◌}
use Rattle.tariff.specs.declared.contracts.Contract.{Contract}
use Rattle.tariff.specs.declared.processes.Process.{Process}
use Rattle.tariff.specs.Units.{Grid, factors_of, max_constraints, max_contracts, max_limit, max_flow}
use Rattle.tariff.specs.Refusals.{given}
use Rattle.tariff.specs.Feasibility.{flow}
use Rattle.tariff.specs.ContractRules.{InRange}
use Rattle.grid_tables.specs.Inner.{GoodCells}
use Rattle.test_rules.specs.declared.Flows.{Flows}
use Rattle.test_rules.specs.TestBook.{TestAnswer}
use Rattle.test_rules.specs.TestBook.{test_outcome, test_values, Demand3}

-- flows on k constraints to which a contract's can be added
pub record FlowRoom (k : ℕ) (flows : List ℤ) : Type 0 where
  pub few : k ≤ max_constraints
  pub all : length flows ≡ max_constraints
  pub flows-sized : (j : ℕ) → j < k → nat_abs (get_or flows j (pos 0)) ≤ max_flow * max_contracts

-- flows on k constraints after a contract's were added
pub record Adds (k : ℕ) (table : List ℤ) (c : Contract) (old new : List ℤ) : Type 0 where
  pub length-kept : length new ≡ length old
  pub flows-added : (n : ℕ) → InRange n c → (j : ℕ) → j < k → get_or new j (pos 0) ≡ get_or old j (pos 0) +ℤ flow (factors_of n k table) c j

-- limits and flows that a verdict can be given on
pub record Judgeable (k : ℕ) (limits : List ℕ) (carried : Flows) : Type 0 where
  pub few : k ≤ max_constraints
  pub good-limits : GoodCells max_limit k limits
  pub flows-sized : (j : ℕ) → j < k → nat_abs (get_or carried.flows j (pos 0)) < 2 ^ 62

-- the answer that is right for contracts that no check refuses
pub record Judges (g : Grid) (process : Process) (cs : List Contract) (answer : TestAnswer) : Type 0 where
  pub figures : test_outcome answer ≡ given (test_values g process cs)
  pub demand3 : Demand3 g process cs answer
