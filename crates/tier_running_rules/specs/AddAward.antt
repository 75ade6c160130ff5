-- Adding an award to a running test (document 02, paper 4: "Adding then checks 10 for a 1,001st award, then each field as the book writer does, then 21 where
-- some flow would exceed its released limit").
use Rattle.std.specs.Prelude.{◌≡◌, Bool, ◌||◌, ◌&&◌, List, [], ◌∷◌, ◌++◌, ℕ, ◌*◌, ltb, length, take, ℤ, pos, nat_abs}
use Rattle.std.specs.Int.Signed.{lt_z}
use Rattle.lists.specs.Lists.{any_of}
use Rattle.lists.specs.Lent.{Lent, before}
use Rattle.lists.specs.Sets.{set_of}
use Rattle.tariff.specs.declared.contracts.Contract.{Contract}
use Rattle.tariff.specs.declared.contracts.Period.{Period}
use Rattle.tariff.specs.declared.processes.Process.{Process}
use Rattle.tariff.specs.Refusals.{Checked}
use Rattle.tariff.specs.Units.{Factors, Grid, factors_of, grid_of, max_flow}
use Rattle.tariff.specs.ContractRules.{same_period, period_of}
use Rattle.tariff.specs.Processes.{process_of}
use Rattle.tariff.specs.Feasibility.{released}
use Rattle.tariff.specs.Refusals.{Check, first, answered, cell_after, ForC}
use Rattle.tariff.specs.Checks.{short_table}
use Rattle.layouts.specs.BookTable.{contract_cells, row_at}
use Rattle.tier_rules.specs.Cells.{RunningAnswer}
use Rattle.tier_rules.specs.Tiers.{Tiers, with_award}
use Rattle.tier_rules.specs.Checks.{overload, running_checks, award_checks, award_over}
use Rattle.tier_rules.specs.Cells.{awards_cells, held_in, counted_in, StateCells, state_cells, state_buffers, running_outcome}
use Rattle.tier_rules.specs.Cells.{with_award_row, with_award_numbers, flow_with, with_award_flows, GoesOn}

-- the counts, process and period by number, the grid's tables, the award as a book's row, and the three buffers as they are at entry
pub record AddAwardCall : Type 0 where
  pub nodes : ℕ
  pub constraints : ℕ
  pub process : ℕ
  pub period : ℕ
  pub limits : List ℕ
  pub factors : List ℤ
  pub award : List ℕ
  pub awards : List ℕ
  pub numbers : List ℕ
  pub flows : List ℤ

abbrev pub add_award_on : ℕ → ℕ → ℕ → ℕ → List ℕ → List ℤ → List ℕ → List ℕ → List ℕ → List ℤ → AddAwardCall
add_award_on n k process period limits factors award awards numbers flows =
    record {
      nodes = n;
      constraints = k;
      process = process;
      period = period;
      limits = limits;
      factors = factors;
      award = award;
      awards = awards;
      numbers = numbers;
      flows = flows;
    }

-- of what a function is lent
abbrev pub add_award_call : ℕ → ℕ → ℕ → ℕ → Lent (List ℕ) → Lent (List ℤ) → Lent (List ℕ) → Lent (List ℕ) → Lent (List ℕ) → Lent (List ℤ) → AddAwardCall
add_award_call n k process period limits factors award awards numbers flows =
    add_award_on n k process period (before limits) (before factors) (before award) (before awards) (before numbers) (before flows)

-- ---- 21 over the cells alone, whatever they hold

-- cells that no operation gave: more counted than held, or a flow larger than so many awards can make
unfoldable pub no_state_of : ℕ → List ℕ → List ℤ → Bool
no_state_of k numbers flows = ltb (held_in numbers) (counted_in numbers) || any_of (λ z. ltb (max_flow * counted_in numbers) (nat_abs z)) (take k flows)

-- some flow with the award's exceeds its released limit
unfoldable pub exceeds_with : List ℕ → Process → Factors → Contract → List ℤ → Bool
exceeds_with limits process f c flows = ltb 0 (set_of f.constraints (λ j. lt_z (pos (released limits process j)) (flow_with f c flows j)))

-- own: whether the award is of the period
unfoldable pub cells_over : Bool → List ℕ → Process → Factors → Contract → List ℕ → List ℤ → Bool
cells_over own limits process f c numbers flows = own && (no_state_of f.constraints numbers flows || exceeds_with limits process f c flows)

module _ (q : AddAwardCall) where
  abbrev pub add_grid : Grid
  add_grid = grid_of q.nodes q.constraints q.limits q.factors

  abbrev pub add_factors : Factors
  add_factors = factors_of q.nodes q.constraints q.factors

  abbrev pub add_process : Process
  add_process = process_of q.process

  abbrev pub add_period : Period
  add_period = period_of q.period

  abbrev pub awarded : Contract
  awarded = row_at q.award 0

  abbrev pub own_period : Bool
  own_period = same_period awarded.period add_period

  -- 2, 3, 16, 17, 9 for the tables, the award and the buffers, 6, 7; 10, 17, 18, 11, 13, 21
  unfoldable pub add_listed : ℕ → Check → List Check
  add_listed held over =
      running_checks q.nodes q.constraints q.process q.period q.limits q.factors
      (short_table (length q.award) contract_cells ∷ short_table (length q.awards) awards_cells ∷ state_buffers q.numbers q.flows)
      ++ award_checks q.nodes held q.award over

  -- over the cells
  abbrev pub add_award_checked : Checked
  add_award_checked = first (add_listed (held_in q.numbers) (overload (cells_over own_period q.limits add_process add_factors awarded q.numbers q.flows)))

  -- over a state
  abbrev pub add_award_checks : Tiers → List Check
  add_award_checks s = add_listed (length s.awards) (award_over add_grid add_process add_period s.awards awarded)

  abbrev pub awards_added : List ℕ
  awards_added = cell_after add_award_checked (with_award_row (held_in q.numbers) awarded q.awards) q.awards

  abbrev pub numbers_added : List ℕ
  numbers_added = cell_after add_award_checked (with_award_numbers own_period q.numbers) q.numbers

  abbrev pub flows_added : List ℤ
  flows_added = cell_after add_award_checked (with_award_flows own_period add_factors awarded q.flows) q.flows

  -- of every running test of this grid, process and period in the buffers at entry
  abbrev pub AddGoesOn : StateCells → Type 0
  AddGoesOn exit =
      GoesOn add_grid add_process add_period add_award_checked add_award_checks (with_award awarded) (state_cells q.awards q.numbers q.flows) exit

-- the promise: the answer, and each buffer at exit
pub record AddsAward (q : AddAwardCall) (answer : RunningAnswer) (exit : StateCells) : Type 0 where
  pub answer-given : running_outcome answer ≡ answered (add_award_checked q) []
  pub awards-added : exit.awards ≡ awards_added q
  pub numbers-added : exit.numbers ≡ numbers_added q
  pub flows-added : exit.flows ≡ flows_added q
  pub running : AddGoesOn q exit

-- the same for C
abbrev pub AddsAwardForC : AddAwardCall → ℕ → StateCells → Type 0
AddsAwardForC q number exit = ForC RunningAnswer running_outcome (λ answer. AddsAward q answer exit) number
