-- Opening a running test for one period and process (document 02, paper 4: "Opening and adding check as the test does up to 7").
use Rattle.std.specs.Prelude.{◌≡◌, List, [], ◌∷◌, ℕ, length, ℤ, Ok}
use Rattle.lists.specs.Lent.{Lent, before}
use Rattle.tariff.specs.Refusals.{Checked, passed}
use Rattle.tariff.specs.Units.{grid_of}
use Rattle.tariff.specs.ContractRules.{period_of}
use Rattle.tariff.specs.Processes.{process_of}
use Rattle.tariff.specs.Refusals.{Check, first, answered, cell_after, ForC}
use Rattle.tariff.specs.Checks.{short_table}
use Rattle.tier_rules.specs.Cells.{RunningAnswer}
use Rattle.tier_rules.specs.Tiers.{opened}
use Rattle.tier_rules.specs.Checks.{running_checks}
use Rattle.tier_rules.specs.Cells.{awards_cells, state_cells, state_buffers, running_outcome, opened_numbers, opened_flows, Running}

-- the counts, process and period by number, the grid's tables, and the three buffers as they are at entry
pub record OpenRunningCall : Type 0 where
  pub nodes : ℕ
  pub constraints : ℕ
  pub process : ℕ
  pub period : ℕ
  pub limits : List ℕ
  pub factors : List ℤ
  pub awards : List ℕ
  pub numbers : List ℕ
  pub flows : List ℤ

abbrev pub open_running_on : ℕ → ℕ → ℕ → ℕ → List ℕ → List ℤ → List ℕ → List ℕ → List ℤ → OpenRunningCall
open_running_on n k process period limits factors awards numbers flows =
    record {
      nodes = n;
      constraints = k;
      process = process;
      period = period;
      limits = limits;
      factors = factors;
      awards = awards;
      numbers = numbers;
      flows = flows;
    }

-- of what a function is lent
abbrev pub open_running_call : ℕ → ℕ → ℕ → ℕ → Lent (List ℕ) → Lent (List ℤ) → Lent (List ℕ) → Lent (List ℕ) → Lent (List ℤ) → OpenRunningCall
open_running_call n k process period limits factors awards numbers flows =
    open_running_on n k process period (before limits) (before factors) (before awards) (before numbers) (before flows)

module _ (q : OpenRunningCall) where
  -- 2, 3, 16, 17, 9 for the tables and the buffers, 6, 7
  unfoldable pub open_running_checks : List Check
  open_running_checks =
      running_checks q.nodes q.constraints q.process q.period q.limits q.factors
      (short_table (length q.awards) awards_cells ∷ state_buffers q.numbers q.flows)

  abbrev pub open_running_checked : Checked
  open_running_checked = first open_running_checks

  abbrev pub numbers_opened : List ℕ
  numbers_opened = cell_after open_running_checked (opened_numbers q.numbers) q.numbers

  abbrev pub flows_opened : List ℤ
  flows_opened = cell_after open_running_checked (opened_flows q.flows) q.flows

  -- nothing is held and nothing marked: a running test that the other operations take
  abbrev pub OpenedRunning : List ℕ → List ℤ → Type 0
  OpenedRunning numbers flows =
      open_running_checked ≡ passed
      → Running (grid_of q.nodes q.constraints q.limits q.factors) (process_of q.process) (period_of q.period) opened
      (state_cells q.awards numbers flows)

-- the promise: the answer, and each buffer at exit
pub record OpensRunning (q : OpenRunningCall) (answer : RunningAnswer) (numbers : List ℕ) (flows : List ℤ) : Type 0 where
  pub answer-given : running_outcome answer ≡ answered (open_running_checked q) []
  pub numbers-opened : numbers ≡ numbers_opened q
  pub flows-opened : flows ≡ flows_opened q
  pub running : OpenedRunning q numbers flows

-- the same for C
abbrev pub OpensRunningForC : OpenRunningCall → ℕ → List ℕ → List ℤ → Type 0
OpensRunningForC q number numbers flows = ForC RunningAnswer running_outcome (λ answer. OpensRunning q answer numbers flows) number
