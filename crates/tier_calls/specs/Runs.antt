-- Document 02, paper 4: a run of the running test over cells. Each call is known by its promise alone, and takes the buffers that the call before left; the tables
-- are the opening's. Calls of the entries and of the C functions may be mixed. Statements only.
use Rattle.std.specs.Prelude.{◌≡◌, List, ℕ, ◌≤◌, length, ℤ, Ok}
use Rattle.tariff.specs.Refusals.{passed}
use Rattle.tariff.specs.Units.{grid_of}
use Rattle.tariff.specs.ContractRules.{period_of}
use Rattle.tariff.specs.Processes.{process_of}
use Rattle.tariff.specs.Refusals.{decided}
use Rattle.layouts.specs.BookTable.{row_at}
use Rattle.tier_rules.specs.Cells.{RunningAnswer}
use Rattle.tier_rules.specs.Tiers.{Tiers, opened, with_award, marked}
use Rattle.tier_rules.specs.Runs.{returned_to}
use Rattle.tier_rules.specs.Cells.{awards_cells, state_numbers, state_flows, StateCells, state_cells, Running}
use Rattle.tier_running_rules.specs.OpenRunning.{OpenRunningCall, open_running_checked, OpensRunning, OpensRunningForC}
use Rattle.tier_running_rules.specs.AddAward.{AddAwardCall, add_award_on, add_award_checked, AddsAward, AddsAwardForC}
use Rattle.tier_mark_rules.specs.MarkTier.{MarkTierCall, mark_tier_call, mark_tier_checked, MarksTier, MarksTierForC}
use Rattle.tier_mark_rules.specs.ReturnToTier.{ReturnToTierCall, return_to_tier_call, return_to_tier_checked, ReturnsToTier, ReturnsToTierForC}

-- ---- the calls that follow an opening q, on cells

abbrev pub add_on : OpenRunningCall → List ℕ → StateCells → AddAwardCall
add_on q award c = add_award_on q.nodes q.constraints q.process q.period q.limits q.factors award c.awards c.numbers c.flows

abbrev pub mark_on : ℕ → StateCells → MarkTierCall
mark_on tier c = mark_tier_call tier c.numbers c.flows

abbrev pub return_on : ℕ → StateCells → ReturnToTierCall
return_on tier c = return_to_tier_call tier c.numbers c.flows

-- ---- the state after each: "each keeps the state unchanged" where a check refuses

abbrev pub state_added : OpenRunningCall → List ℕ → StateCells → Tiers → Tiers
state_added q award c s = decided (add_award_checked (add_on q award c)) (λ r. s) (with_award (row_at award 0) s)

abbrev pub state_marked : ℕ → StateCells → Tiers → Tiers
state_marked tier c s = decided (mark_tier_checked (mark_on tier c)) (λ r. s) (marked tier s)

abbrev pub state_returned : ℕ → StateCells → Tiers → Tiers
state_returned tier c s = decided (return_to_tier_checked (return_on tier c)) (λ r. s) (returned_to tier s)

-- the state and the cells that a run has come to
pub data CellRun (q : OpenRunningCall) : Tiers → StateCells → Type 0 where
  opens : (answer : RunningAnswer) (numbers : List ℕ) (flows : List ℤ) → OpensRunning q answer numbers flows → open_running_checked q ≡ passed
      → CellRun q opened (state_cells q.awards numbers flows)
  adds : (s : Tiers) (c exit : StateCells) → CellRun q s c → (award : List ℕ) (answer : RunningAnswer) → AddsAward (add_on q award c) answer exit
      → CellRun q (state_added q award c s) exit
  marks : (s : Tiers) (c : StateCells) → CellRun q s c → (tier : ℕ) (answer : RunningAnswer) (numbers : List ℕ) (flows : List ℤ)
      → MarksTier (mark_on tier c) answer numbers flows → CellRun q (state_marked tier c s) (state_cells c.awards numbers flows)
  returns : (s : Tiers) (c : StateCells) → CellRun q s c → (tier : ℕ) (answer : RunningAnswer) (numbers : List ℕ) (flows : List ℤ)
      → ReturnsToTier (return_on tier c) answer numbers flows → CellRun q (state_returned tier c s) (state_cells c.awards numbers flows)
  crr_opens : (numbers : List ℕ) (flows : List ℤ) → OpensRunningForC q 0 numbers flows → CellRun q opened (state_cells q.awards numbers flows)
  crr_adds : (s : Tiers) (c exit : StateCells) → CellRun q s c → (award : List ℕ) (number : ℕ) → AddsAwardForC (add_on q award c) number exit
      → CellRun q (state_added q award c s) exit
  crr_marks : (s : Tiers) (c : StateCells) → CellRun q s c → (tier number : ℕ) (numbers : List ℕ) (flows : List ℤ)
      → MarksTierForC (mark_on tier c) number numbers flows → CellRun q (state_marked tier c s) (state_cells c.awards numbers flows)
  crr_returns : (s : Tiers) (c : StateCells) → CellRun q s c → (tier number : ℕ) (numbers : List ℕ) (flows : List ℤ)
      → ReturnsToTierForC (return_on tier c) number numbers flows → CellRun q (state_returned tier c s) (state_cells c.awards numbers flows)

-- the cells c hold the state s, which passes with worst shortfall 0, under the tables of the accepted opening q
pub record RunningIn (q : OpenRunningCall) (s : Tiers) (c : StateCells) : Type 0 where
  pub opened : open_running_checked q ≡ passed
  pub running : Running (grid_of q.nodes q.constraints q.limits q.factors) (process_of q.process) (period_of q.period) s c

-- buffers as long as the opening asks for
pub record LongEnough (c : StateCells) : Type 0 where
  pub awards-long : awards_cells ≤ length c.awards
  pub numbers-long : state_numbers ≤ length c.numbers
  pub flows_long : state_flows ≤ length c.flows

-- THE STATEMENTS: "At every moment flows, count and verdict equal those worked out afresh over the awards still held, so the verdict is always pass and the
-- shortfall guarantee covers each state reached", whatever the order of the calls, refused or not
pub record EveryRun : Type 0 where
  pub every_run_runs : (q : OpenRunningCall) (s : Tiers) (c : StateCells) → CellRun q s c → RunningIn q s c
  -- and so long as the buffers are handed on, no call that follows draws 9 for them
  pub buffers_stay_long : (q : OpenRunningCall) (s : Tiers) (c : StateCells) → CellRun q s c → LongEnough c
