-- Document 02, paper 14: "In the running tiers it is said of the awards held: another order of adding may draw 21 on the way." Over what `add_award` and its C
-- function answer. Statements only.
use Rattle.std.specs.Prelude.{◌≡◌, false, List, ℕ, ◌≤◌, ◌<◌, length, take}
use Rattle.tariff.specs.Units.{limit, max_contracts, grid_of}
use Rattle.tariff.specs.Refusals.{decided}
use Rattle.tariff.specs.Checks.{short_table, limit_range}
use Rattle.order_rules.specs.Reordering.{Reordered}
use Rattle.order_rules.specs.Relief.{OptionMore}
use Rattle.tier_rules.specs.Cells.{RunningAnswer}
use Rattle.tier_rules.specs.Tiers.{Tiers, with_award, Reached}
use Rattle.tier_rules.specs.Cells.{awards_cells, state_numbers, state_flows, StateCells, state_cells, running_outcome, HoldsTiers}
use Rattle.tier_running_rules.specs.AddAward.{AddAwardCall, add_award_on, add_grid, add_process, add_period, awarded, add_award_checked, AddsAward, AddsAwardForC}
use Rattle.tier_running_rules.specs.OpenRunning.{OpenRunningCall, open_running_on}
use Rattle.tier_reordering.specs.Awards.{SameStateCells}
use Rattle.tier_calls.specs.Runs.{CellRun, add_on}

-- s is the state in the call's buffers: "one that these operations gave, unaltered"
pub record StateIn (q : AddAwardCall) (s : Tiers) : Type 0 where
  pub reached : Reached (add_grid q) (add_process q) (add_period q) s
  pub holds : HoldsTiers (add_grid q) (add_period q) s (state_cells q.awards q.numbers q.flows)

-- the state after the call
abbrev pub state_after : AddAwardCall → Tiers → Tiers
state_after q s = decided (add_award_checked q) (λ r. s) (with_award (awarded q) s)

-- the same award into other buffers, or under other limits
abbrev pub add_into : AddAwardCall → StateCells → AddAwardCall
add_into q cells =
    add_award_on q.nodes q.constraints q.process q.period q.limits q.factors q.award cells.awards cells.numbers cells.flows

abbrev pub add_under : AddAwardCall → List ℕ → AddAwardCall
add_under q limits =
    add_award_on q.nodes q.constraints q.process q.period limits q.factors q.award q.awards q.numbers q.flows

-- buffers that draw 9 where the call's do
pub record SameRoom (q : AddAwardCall) (cells : StateCells) : Type 0 where
  pub awards-alike : (short_table (length q.awards) awards_cells).fails ≡ (short_table (length cells.awards) awards_cells).fails
  pub numbers-alike : (short_table (length q.numbers) state_numbers).fails ≡ (short_table (length cells.numbers) state_numbers).fails
  pub flows-alike : (short_table (length q.flows) state_flows).fails ≡ (short_table (length cells.flows) state_flows).fails

-- limits that draw neither 9 nor 6, and of which none is lower
pub record LimitsRaised (q : AddAwardCall) (limits : List ℕ) : Type 0 where
  pub long : q.constraints ≤ length limits
  pub in_range : (limit_range (take q.constraints limits)).fails ≡ false
  pub raised : (k : ℕ) → k < q.constraints → limit q.limits k ≤ limit limits k

-- two calls that answer a and b, 0 or the refusal's number, and leave x and y: the same answer, the same flows, count and number held, and again one list of
-- awards in two orders
pub record AddedAlike (q p : AddAwardCall) (s r : Tiers) (a b : ℕ) (x y : StateCells) : Type 0 where
  pub same_answer : a ≡ b
  pub same_cells : SameStateCells (add_grid q) x y
  pub still_reordered : Reordered (state_after q s).awards (state_after p r).awards

-- the same opening with other buffers
abbrev pub open_into : OpenRunningCall → StateCells → OpenRunningCall
open_into o cells = open_running_on o.nodes o.constraints o.process o.period o.limits o.factors cells.awards cells.numbers cells.flows

-- THE STATEMENTS, of two states s and r of one opening
pub record TierAnswers : Type 0 where
  -- what any run of calls has come to is such a state, with room; and where two runs under one opening's tables hold the same awards, in whatever order they were
  -- added and whatever was refused or dropped on the way, flows, count and number held are the same, and the same award is answered alike
  pub run_state : (o : OpenRunningCall) (s : Tiers) (c : StateCells) → CellRun o s c → (award : List ℕ) → StateIn (add_on o award c) s
  pub runs_room : (o : OpenRunningCall) (buffers : StateCells) (s r : Tiers) (c d : StateCells) → CellRun o s c → CellRun (open_into o buffers) r d
      → (award : List ℕ) → SameRoom (add_on o award c) d
  pub runs_reordered : (o : OpenRunningCall) (buffers : StateCells) (s r : Tiers) (c d : StateCells) → CellRun o s c → CellRun (open_into o buffers) r d
      → Reordered s.awards r.awards → SameStateCells (grid_of o.nodes o.constraints o.limits o.factors) c d
  pub runs_added_alike : (o : OpenRunningCall) (buffers : StateCells) (s r : Tiers) (c d : StateCells) → CellRun o s c → CellRun (open_into o buffers) r d
      → Reordered s.awards r.awards → (award : List ℕ) (a b : RunningAnswer) (x y : StateCells)
      → AddsAward (add_on o award c) a x → AddsAward (add_on o award d) b y
      → AddedAlike (add_on o award c) (add_on o award d) s r (running_outcome a).number (running_outcome b).number x y
  pub crr_runs_added_alike : (o : OpenRunningCall) (buffers : StateCells) (s r : Tiers) (c d : StateCells) → CellRun o s c → CellRun (open_into o buffers) r d
      → Reordered s.awards r.awards → (award : List ℕ) (a b : ℕ) (x y : StateCells) → AddsAwardForC (add_on o award c) a x → AddsAwardForC (add_on o award d) b y
      → AddedAlike (add_on o award c) (add_on o award d) s r a b x y
  -- "any reordering", of states and buffers: the awards held in another order
  pub added-alike : (q : AddAwardCall) (other : StateCells) (s r : Tiers) → StateIn q s → StateIn (add_into q other) r → SameRoom q other
      → Reordered s.awards r.awards → (a b : RunningAnswer) (x y : StateCells) → AddsAward q a x → AddsAward (add_into q other) b y
      → AddedAlike q (add_into q other) s r (running_outcome a).number (running_outcome b).number x y
  pub crr_added_alike : (q : AddAwardCall) (other : StateCells) (s r : Tiers) → StateIn q s → StateIn (add_into q other) r → SameRoom q other
      → Reordered s.awards r.awards → (a b : ℕ) (x y : StateCells) → AddsAwardForC q a x → AddsAwardForC (add_into q other) b y
      → AddedAlike q (add_into q other) s r a b x y
  -- "Raising any limit never turns a pass into a failure": the cells hold the state under the raised limits too, and an award that was added is added there
  pub raised-state : (q : AddAwardCall) (limits : List ℕ) (s : Tiers) → LimitsRaised q limits → StateIn q s → StateIn (add_under q limits) s
  pub raised-still_added : (q : AddAwardCall) (limits : List ℕ) (s : Tiers) → LimitsRaised q limits → StateIn q s → (a b : RunningAnswer) (x y : StateCells)
      → AddsAward q a x → AddsAward (add_under q limits) b y → (running_outcome a).number ≡ 0 → (running_outcome b).number ≡ 0
  pub crr_raised_still_added : (q : AddAwardCall) (limits : List ℕ) (s : Tiers) → LimitsRaised q limits → StateIn q s → (a b : ℕ) (x y : StateCells)
      → AddsAwardForC q a x → AddsAwardForC (add_under q limits) b y → a ≡ 0 → b ≡ 0
  -- "Adding an option never turns a failure into a pass": an award that draws 21 draws it too where an option more is held and there is room for the award
  pub option_still_21 : (q : AddAwardCall) (other : StateCells) (s r : Tiers) → StateIn q s → StateIn (add_into q other) r → SameRoom q other
      → OptionMore s.awards r.awards → length r.awards < max_contracts → (a b : RunningAnswer) (x y : StateCells) → AddsAward q a x
      → AddsAward (add_into q other) b y → (running_outcome a).number ≡ 21 → (running_outcome b).number ≡ 21
  pub crr_option_still_21 : (q : AddAwardCall) (other : StateCells) (s r : Tiers) → StateIn q s → StateIn (add_into q other) r → SameRoom q other
      → OptionMore s.awards r.awards → length r.awards < max_contracts → (a b : ℕ) (x y : StateCells) → AddsAwardForC q a x
      → AddsAwardForC (add_into q other) b y → a ≡ 21 → b ≡ 21
