-- What inner functions say: counts that draw 2, 3, 16 or 17, buffers that draw 9, flows with an award's, and what is left of an award's checks.
use Rattle.std.specs.Prelude.{◌≡◌, Bool, false, ◌||◌, cond, List, ◌∷◌, ◌++◌, ℕ, ◌+◌, ◌≤◌, ◌<◌, ltb, length, get_or, set, ℤ, pos}
use Rattle.tariff.specs.declared.contracts.Contract.{Contract}
use Rattle.tariff.specs.declared.processes.Process.{Process}
use Rattle.tariff.specs.declared.refusals.Refusal.TheVariants.{ShortTable}
use Rattle.tariff.specs.Units.{Factors, max_limit, max_contracts}
use Rattle.tariff.specs.ContractRules.{InRange}
use Rattle.tariff.specs.Refusals.{Check}
use Rattle.tariff.specs.Checks.{node_count, constraint_count, process_number, period_number, short_table, contract_count}
use Rattle.grid_tables.specs.Inner.{GoodFactors, GoodCells}
use Rattle.layouts.specs.BookTable.{contract_cells}
use Rattle.book_rules.specs.WriteBook.{row_checks}
use Rattle.test_rules.specs.declared.Flows.{Flows}
use Rattle.tier_rules.specs.Checks.{running_checks}
use Rattle.tier_rules.specs.Cells.{awards_cells, state_numbers, state_flows, held_in, counted_in, state_buffers, flow_with, with_award_flows}
use Rattle.tier_running_rules.specs.AddAward.{AddAwardCall, no_state_of, cells_over}

abbrev pub counts_bad_of : ℕ → ℕ → ℕ → ℕ → Bool
counts_bad_of n k process period = (node_count n).fails || ((constraint_count k).fails || ((process_number process).fails || (period_number period).fails))

abbrev pub state_short_of : ℕ → ℕ → ℕ → Bool
state_short_of awards numbers flows = ltb awards awards_cells || (ltb numbers state_numbers || ltb flows state_flows)

-- 9 for all buffers at once
abbrev pub short_if : Bool → Check
short_if b = record { fails = b; refusal = ShortTable }

-- an award's checks before 21
unfoldable pub up_to13 : AddAwardCall → ℕ → List Check
up_to13 q held =
    running_checks q.nodes q.constraints q.process q.period q.limits q.factors
    (short_table (length q.award) contract_cells ∷ short_table (length q.awards) awards_cells ∷ state_buffers q.numbers q.flows)
    ++ contract_count (held + 1) ∷ row_checks q.nodes q.award 0

-- cells that are a state's, as far as a sum asks
pub record StateLike (k : ℕ) (numbers : List ℕ) (flows : List ℤ) : Type 0 where
  pub long : k ≤ length flows
  pub room : held_in numbers < max_contracts
  pub told : no_state_of k numbers flows ≡ false

-- flows with an award's
pub record FlowsWith (f : Factors) (c : Contract) (flows : List ℤ) (tried : Flows) : Type 0 where
  pub flows-are : (k : ℕ) → k < f.constraints → get_or tried.flows k (pos 0) ≡ flow_with f c flows k

-- tables, an award and buffers that no check before 21 refuses
pub record Addable (n k : ℕ) (limits : List ℕ) (factors : List ℤ) (c : Contract) (numbers : List ℕ) (flows : List ℤ) : Type 0 where
  pub good-limits : GoodCells max_limit k limits
  pub good-factors : GoodFactors n k factors
  pub in_range : InRange n c
  pub numbers-long : state_numbers ≤ length numbers
  pub flows_long : state_flows ≤ length flows
  pub room : held_in numbers < max_contracts

-- what adding an award's flows gives: whether 21 comes, and the buffers where it does not
pub record AddsFlows (own : Bool) (limits : List ℕ) (process : Process) (f : Factors) (c : Contract) (numbers : List ℕ) (flows : List ℤ) (over : Bool)
    (numbers' : List ℕ) (flows' : List ℤ) : Type 0 where
  pub over-is : over ≡ cells_over own limits process f c numbers flows
  pub numbers-are : numbers' ≡ cond over numbers (cond own (set numbers 1 (counted_in numbers + 1)) numbers)
  pub flows-are : flows' ≡ cond over flows (with_award_flows own f c flows)
