-- Document 02, paper 14: "Raising any limit never turns a pass into a failure. Adding an option never turns a failure into a pass." Statements only.
use Rattle.std.specs.Prelude.{◌≡◌, true, List, ◌∷◌, ℕ, ◌≤◌, ◌<◌, ◌≤ℤ◌}
use Rattle.tariff.specs.declared.contracts.Contract.{Contract}
use Rattle.tariff.specs.declared.contracts.Kind.TheVariants.{Option}
use Rattle.tariff.specs.declared.contracts.Period.{Period}
use Rattle.tariff.specs.declared.processes.Process.{Process}
use Rattle.tariff.specs.Units.{Factors, Grid, limit}
use Rattle.tariff.specs.ContractRules.{of_period}
use Rattle.tariff.specs.Feasibility.{total_flow, Passes, overloaded}
use Rattle.order_rules.specs.Reordering.{Reordered}

-- "Raising any limit": the same counts and factors, and no limit lowered; any number of them may be raised
pub record Raised (low high : Grid) : Type 0 where
  pub factors-same : high.factors ≡ low.factors
  pub limits-raised : (k : ℕ) → k < low.factors.constraints → limit low.limits k ≤ limit high.limits k

-- "Adding an option": one contract more, an option of either period, put in anywhere
pub record OptionMore (cs more : List Contract) : Type 0 where
  pub added : Contract
  pub is-option : added.kind ≡ Option
  pub anywhere : Reordered more (added ∷ cs)

-- THE STATEMENTS, for every process and period
pub record Relief : Type 0 where
  -- with limits raised the overload set only loses members
  pub raised-limit_adds_no_overload : (low high : Grid) (process : Process) (t : Period) (cs : List Contract) → Raised low high
      → (k : ℕ) → k < low.factors.constraints → overloaded high process (of_period t cs) k ≡ true → overloaded low process (of_period t cs) k ≡ true
  pub raised-limit_keeps_pass : (low high : Grid) (process : Process) (t : Period) (cs : List Contract) → Raised low high
      → Passes low process (of_period t cs) → Passes high process (of_period t cs)
  -- with an option more no flow gets smaller, so every overloaded constraint stays overloaded
  pub option_lowers_no_flow : (f : Factors) (t : Period) (cs more : List Contract) → OptionMore cs more
      → (k : ℕ) → total_flow f (of_period t cs) k ≤ℤ total_flow f (of_period t more) k
  pub option_clears_no_overload : (g : Grid) (process : Process) (t : Period) (cs more : List Contract) → OptionMore cs more
      → (k : ℕ) → overloaded g process (of_period t cs) k ≡ true → overloaded g process (of_period t more) k ≡ true
  pub option_keeps_fail : (g : Grid) (process : Process) (t : Period) (cs more : List Contract) → OptionMore cs more
      → (Passes g process (of_period t cs) → ⊥) → Passes g process (of_period t more) → ⊥
  -- the same the other way round
  pub passed_before_option : (g : Grid) (process : Process) (t : Period) (cs more : List Contract) → OptionMore cs more
      → Passes g process (of_period t more) → Passes g process (of_period t cs)
