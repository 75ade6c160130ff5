-- What it is for the contracts of one book to have the figures of another's, whatever the grid, the prices, the process and the period.
use Rattle.std.specs.Prelude.{◌≡◌, List, map, ℕ}
use Rattle.tariff.specs.declared.contracts.Contract.{Contract}
use Rattle.tariff.specs.declared.contracts.Period.{Period}
use Rattle.tariff.specs.declared.processes.Process.{Process}
use Rattle.tariff.specs.Units.{Factors, Grid}
use Rattle.tariff.specs.ContractRules.{of_period}
use Rattle.tariff.specs.Feasibility.{total_flow}
use Rattle.test_rules.specs.Theorems.{SameTest}
use Rattle.hour_rules.specs.SettleHour.{cents_of, priced_of, cents_sum, hour_total}

pub record SameMarketFigures (cs ds : List Contract) : Type 0 where
  pub same_flows : (f : Factors) (t : Period) (k : ℕ) → total_flow f (of_period t cs) k ≡ total_flow f (of_period t ds) k
  pub same_verdict : (g : Grid) (process : Process) (t : Period) → SameTest g process (of_period t cs) (of_period t ds)
  -- cents and priced sets, contract by contract
  pub same_cents : (f : Factors) (p : List ℕ) (t : Period) → map (cents_of f p t) cs ≡ map (cents_of f p t) ds
  pub same_sets : (f : Factors) (p : List ℕ) (t : Period) → map (priced_of f p t) cs ≡ map (priced_of f p t) ds
  -- the sum of the cents, and the exact total
  pub same_sum : (f : Factors) (p : List ℕ) (t : Period) → cents_sum f p t cs ≡ cents_sum f p t ds
  pub same_total : (f : Factors) (p : List ℕ) (t : Period) → hour_total f p t cs ≡ hour_total f p t ds
