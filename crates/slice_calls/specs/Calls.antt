-- A test of any size as calls of add_flows and judge_flows, or of their C functions, block by block. Beyond the papers. Definitions only.
use Rattle.std.specs.Prelude.{◌≡◌, List, [], ◌++◌, ℕ, ◌<◌, get_or, ℤ, pos, Ok, Err}
use Rattle.lists.specs.Lent.{Lent, after}
use Rattle.tariff.specs.declared.contracts.Contract.{Contract}
use Rattle.tariff.specs.declared.contracts.Period.{Period}
use Rattle.tariff.specs.declared.units.Flow.{Flow}
use Rattle.tariff.specs.Refusals.{passed}
use Rattle.tariff.specs.Units.{Factors, Grid, limit}
use Rattle.tariff.specs.ContractRules.{period_of}
use Rattle.layouts.specs.BookFile.{book_in}
use Rattle.test_rules.specs.TestBook.{TestAnswer, pass, fail}
use Rattle.test_loading.specs.FindFlows.{FlowsAnswer}
use Rattle.test_totals.specs.AddFlows.{AddFlowsCall, added_factors, add_flows_checked, AddsFlows, AddsFlowsForC}
use Rattle.test_totals.specs.JudgeFlows.{JudgeCall, judge_call, judge_checked, JudgesFlows, JudgesFlowsForC}
use Rattle.order_rules.specs.Reordering.{Reordered}
use Rattle.slice_rules.specs.Slices.{Block, AllStandFor, Cut}

-- the totals that a call left: of add_flows, or of crr_add_flows
pub data Added (q : AddFlowsCall) (flows : List ℤ) (count : ℕ) : Type 0 where
  by_entry : (answer : FlowsAnswer) → AddsFlows q answer flows count → Added q flows count
  by_crr : (number : ℕ) (counted : Lent ℕ) → AddsFlowsForC q number flows count counted → Added q flows count

-- one such call that refused nothing, on totals as they were, for some of the whole's contracts
pub record Step (whole : Factors) (b : Block) (t : Period) (flows : List ℤ) (count : ℕ) : Type 0 where
  pub call : AddFlowsCall
  pub flows-left : List ℤ
  pub count_left : ℕ
  pub contracts : List Contract
  pub flows-lent : call.asked.place ≡ flows
  pub count-lent : call.count ≡ count
  pub size_is : b.size ≡ call.asked.constraints
  pub period-is : period_of call.asked.period ≡ t
  pub stands : AllStandFor whole b (added_factors call) contracts (book_in call.asked.book)
  pub none-refused : add_flows_checked call ≡ passed
  pub added : Added call flows-left count_left

-- totals that steps made, one behind the other, from cells of 0: of the contracts of all of them
pub data Summed (whole : Factors) (b : Block) (t : Period) : List Contract → List ℤ → ℕ → Type 0 where
  begun : (flows : List ℤ) → ((j : ℕ) → j < b.size → get_or flows j (pos 0) ≡ pos 0) → Summed whole b t [] flows 0
  added : (cs : List Contract) (flows : List ℤ) (count : ℕ) → Summed whole b t cs flows count → (s : Step whole b t flows count)
      → Summed whole b t (cs ++ s.contracts) s.flows-left s.count_left

-- what was answered on totals: by judge_flows, or by crr_judge_flows in its figures
pub data Judged (q : JudgeCall) : Type 0 where
  by_entry : (answer : TestAnswer) → JudgesFlows q answer → Judged q
  by_crr : (number : ℕ) (set count lowest : Lent ℕ) (excess : Lent ℤ) → JudgesFlowsForC q number set count lowest excess → Judged q

-- a pass: the answer is that, or the set is 0
abbrev pub IsPass : {q : JudgeCall} → Judged q → Type 0
IsPass (Judged.by_entry answer judges) = answer ≡ pass
IsPass (Judged.by_crr number set count lowest excess judges) = after set ≡ 0

-- a fail that names this constraint of the block with this excess
pub record Names (answer : TestAnswer) (lowest : ℕ) (over : ℤ) : Type 0 where
  pub set : ℕ
  pub count : ℕ
  pub excess : Flow
  pub is-fail : answer ≡ fail set count lowest excess
  pub excess-is : excess.0 ≡ over

abbrev pub IsFail : {q : JudgeCall} → Judged q → ℕ → ℤ → Type 0
IsFail (Judged.by_entry answer judges) at over = Names answer at over
IsFail (Judged.by_crr number set count lowest excess judges) at over = (after set ≡ 0 → ⊥) × (after lowest ≡ at) × (after excess ≡ over)

-- A whole test by calls: for each block of the grid's constraints the totals of all contracts, in any order, and what judging them by the block's limits
-- answered, which is no refusal.
pub record TestedInSlices (g : Grid) (process : ℕ) (t : Period) (book : List Contract) : Type 0 where
  pub cut : Cut g.factors.constraints
  pub limits : ℕ → List ℕ
  pub limits-same : (i j : ℕ) → i < cut.blocks → j < (cut.block i).size → limit (limits i) j ≡ limit g.limits ((cut.block i).number j)
  pub contracts : ℕ → List Contract
  pub all-contracts : (i : ℕ) → i < cut.blocks → Reordered (contracts i) book
  pub flows : ℕ → List ℤ
  pub count : ℕ → ℕ
  pub summed : (i : ℕ) → i < cut.blocks → Summed g.factors (cut.block i) t (contracts i) (flows i) (count i)
  pub none-refused : (i : ℕ) → i < cut.blocks → judge_checked (judge_call (cut.block i).size process (limits i) (flows i) (count i)) ≡ passed
  pub answer : (i : ℕ) → Judged (judge_call (cut.block i).size process (limits i) (flows i) (count i))
