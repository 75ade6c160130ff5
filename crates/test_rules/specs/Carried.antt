-- What the test carries from contract to contract.
use Rattle.std.specs.Prelude.{◌≡◌, List, ℕ, ◌<◌, length, get_or, pos}
use Rattle.tariff.specs.declared.contracts.Contract.{Contract}
use Rattle.tariff.specs.Units.{Factors}
use Rattle.tariff.specs.Feasibility.{total_flow}
use Rattle.test_rules.specs.declared.Flows.{Flows}

-- "the flow on all constraints is carried together with the number of contracts counted": what the struct carries after the contracts cs
pub record Carries (f : Factors) (cs : List Contract) (carried : Flows) : Type 0 where
  pub flows-are : (k : ℕ) → k < f.constraints → get_or carried.flows k (pos 0) ≡ total_flow f cs k
  pub count-is : carried.count ≡ length cs
