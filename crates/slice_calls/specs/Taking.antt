-- Slices whose figures are in range are taken: the calls for a slice and for a block's totals, what they ask, and a whole test by them. Beyond the papers.
-- Statements only.
use Rattle.std.specs.Prelude.{◌≡◌, List, ℕ, ◌+◌, ◌^◌, ◌≤◌, ◌<◌, length, ℤ, nat_abs, Ok}
use Rattle.lists.specs.Lists.{Each}
use Rattle.lists.specs.Lent.{Lent, before}
use Rattle.tariff.specs.declared.contracts.Contract.{Contract}
use Rattle.tariff.specs.Refusals.{passed}
use Rattle.tariff.specs.Units.{Factors, factors_of, factor, Grid, limit, price}
use Rattle.tariff.specs.Units.{max_nodes, max_constraints, max_contracts, max_factor, max_limit, max_price, max_holder}
use Rattle.tariff.specs.ContractRules.{period_of, InRange}
use Rattle.layouts.specs.declared.forms.Form.{Form}
use Rattle.layouts.specs.Forms.{end_width}
use Rattle.layouts.specs.BookFile.{book_file, book_in}
use Rattle.test_loading.specs.FindFlows.{flows_call}
use Rattle.test_totals.specs.Totals.{max_summed}
use Rattle.test_totals.specs.AddFlows.{AddFlowsCall, add_flows_checked}
use Rattle.test_totals.specs.JudgeFlows.{judge_call, judge_checked}
use Rattle.hour_rules.specs.SettleHour.{HourCall, hour_call, settle_checked}
use Rattle.slice_rules.specs.Slices.{Block, Pairwise, AllStandFor}
use Rattle.slice_rules.specs.Cutting.{renumbered, Renumbered}
use Rattle.slice_rules.specs.Totals.{Totals}
use Rattle.slice_calls.specs.Calls.{TestedInSlices}

-- a block of at most 64 of a grid's constraints, factors in range; and limits, or prices, in range for it
pub record BlockInRange (whole : Factors) (b : Block) : Type 0 where
  pub few : b.size ≤ max_constraints
  pub inside : (j : ℕ) → j < b.size → b.number j < whole.constraints
  pub factors-sized : (n k : ℕ) → n < whole.nodes → k < whole.constraints → nat_abs (factor whole n k) ≤ max_factor

pub record BlockLimits (b : Block) (limits : List ℕ) : Type 0 where
  pub limits-long : b.size ≤ length limits
  pub limits-sized : (j : ℕ) → j < b.size → limit limits j ≤ max_limit

pub record BlockPrices (b : Block) (prices : List ℕ) : Type 0 where
  pub prices-long : b.size ≤ length prices
  pub prices-sized : (j : ℕ) → j < b.size → price prices j ≤ max_price

-- a contract that a book on so many nodes can hold
pub record Held (nodes : ℕ) (c : Contract) : Type 0 where
  pub in_range : InRange nodes c
  pub quantity-some : 0 < c.quantity.0
  pub holder-sized : c.holder ≤ max_holder

-- nodes of the whole for a slice, and contracts numbered by them, in numbers that the form of their book holds
pub record SliceInRange (whole : Factors) (form : Form) (nodes : List ℕ) (ds : List Contract) : Type 0 where
  pub nodes-some : 0 < length nodes
  pub nodes-few : length nodes ≤ max_nodes
  pub nodes-of_whole : Each (λ (n : ℕ). n < whole.nodes) nodes
  pub form-holds : length nodes ≤ 2 ^ end_width form
  pub contracts-few : length ds ≤ max_contracts
  pub contracts-held : Each (Held (length nodes)) ds

-- the calls for a slice, of add_flows and of settle_hour: the nodes' factors on the block's constraints, and the contracts numbered by these nodes as a book's
-- bytes
abbrev pub slice_call : Factors → Block → ℕ → List ℕ → Form → List ℕ → List Contract → List ℤ → ℕ → AddFlowsCall
slice_call whole b period limits form nodes ds flows count =
    record {
      asked = flows_call (length nodes) b.size period limits (renumbered whole b nodes).cells (book_file form ds) flows;
      count = count;
    }

abbrev pub hour_slice_call : Factors → Block → ℕ → List ℕ → Form → List ℕ → List Contract → HourCall
hour_slice_call whole b period prices form nodes ds = hour_call (length nodes) b.size period (renumbered whole b nodes).cells prices (book_file form ds)

-- the factors that both calls work with
abbrev pub slice_factors : Factors → Block → List ℕ → Factors
slice_factors whole b nodes = factors_of (length nodes) b.size (renumbered whole b nodes).cells

-- the totals of contracts of the whole that are in range
pub record TotalsInRange (whole : Factors) (b : Block) (flows : List ℤ) (count : ℕ) : Type 0 where
  pub contracts : List Contract
  pub contracts-in_range : Each (InRange whole.nodes) contracts
  pub totals : Totals whole b contracts flows count
  pub flows_long : b.size ≤ length flows

-- THE STATEMENTS, for every grid and block, of any number of nodes and constraints
pub record SlicesAreTaken : Type 0 where
  -- the book of either call stands for the contracts that were numbered so
  pub slice_stands : (whole : Factors) (b : Block) (form : Form) (nodes : List ℕ) (cs ds : List Contract)
      → BlockInRange whole b → SliceInRange whole form nodes ds → Pairwise (Renumbered nodes) cs ds
      → AllStandFor whole b (slice_factors whole b nodes) cs (book_in (book_file form ds))
  -- on totals in range, of 20,000,000 contracts at most with these, nothing is refused
  pub slice_is_taken : (whole : Factors) (b : Block) (period : ℕ) (limits : List ℕ) (form : Form) (nodes : List ℕ) (ds : List Contract) (flows : List ℤ) (count : ℕ)
      → BlockInRange whole b → BlockLimits b limits → SliceInRange whole form nodes ds → period ≤ 1 → TotalsInRange whole b flows count
      → count + length ds ≤ max_summed → add_flows_checked (slice_call whole b period limits form nodes ds flows count) ≡ passed
  -- nor when they are judged
  pub totals-are_judged : (whole : Factors) (b : Block) (process : ℕ) (limits : List ℕ) (flows : List ℤ) (count : ℕ)
      → BlockInRange whole b → BlockLimits b limits → process ≤ 2 → TotalsInRange whole b flows count → count ≤ max_summed
      → judge_checked (judge_call b.size process limits flows count) ≡ passed
  -- nor when a slice of an hour is settled, with room for its cents and sets
  pub hour_is_taken : (whole : Factors) (b : Block) (period : ℕ) (prices : List ℕ) (form : Form) (nodes : List ℕ) (ds : List Contract)
      (cents : Lent (List ℤ)) (sets : Lent (List ℕ)) → BlockInRange whole b → BlockPrices b prices → SliceInRange whole form nodes ds → period ≤ 1
      → length ds ≤ length (before cents) → length ds ≤ length (before sets)
      → settle_checked (hour_slice_call whole b period prices form nodes ds) cents sets ≡ passed

-- a grid of any number of nodes and constraints and a book of at most 20,000,000 contracts, all figures in range
pub record TestInRange (g : Grid) (process period : ℕ) (book : List Contract) : Type 0 where
  pub factors-sized : (n k : ℕ) → n < g.factors.nodes → k < g.factors.constraints → nat_abs (factor g.factors n k) ≤ max_factor
  pub limits-sized : (k : ℕ) → k < g.factors.constraints → limit g.limits k ≤ max_limit
  pub process-number : process ≤ 2
  pub period-number : period ≤ 1
  pub contracts-held : Each (Held g.factors.nodes) book
  pub contracts-few : length book ≤ max_summed

-- every such test can be made by calls, none of which is refused
abbrev pub CanBeTested : Type 0
CanBeTested = (g : Grid) (process period : ℕ) (book : List Contract) → TestInRange g process period book → TestedInSlices g process (period_of period) book
