-- Document 02, paper 14, over what the entries promise: "For accepted inputs and one process", for books of any bytes, of either width and of different widths.
-- Statements only.
use Rattle.std.specs.Prelude.{◌≡◌, List, ℕ, ◌≤◌, ◌<◌, get_or, ℤ, pos, Ok}
use Rattle.lists.specs.Lists.{Each}
use Rattle.lists.specs.Lent.{Lent, after}
use Rattle.tariff.specs.declared.contracts.Contract.{Contract}
use Rattle.tariff.specs.Refusals.{passed}
use Rattle.tariff.specs.Units.{Factors, limit}
use Rattle.tariff.specs.Refusals.{first}
use Rattle.layouts.specs.declared.forms.Form.{Form}
use Rattle.layouts.specs.Forms.{end_width}
use Rattle.layouts.specs.BookFile.{book_file, contract_count_in, book_form_in, contract_at, book_in}
use Rattle.layouts.specs.BookTable.{ContractFits}
use Rattle.book_rules.specs.BookChecks.{book_checks}
use Rattle.test_rules.specs.declared.Flows.{Flows}
use Rattle.test_rules.specs.TestBook.{TestAnswer, pass}
use Rattle.test_rules.specs.TestBook.{TestCall, test_call, test_outcome, test_checked, TestsBook}
use Rattle.test_rules.specs.Carried.{Carries}
use Rattle.test_loading.specs.FindFlows.{FlowsAnswer}
use Rattle.test_loading.specs.FindFlows.{FlowsCall, flows_call, flows_outcome, find_flows_checked, FindsFlows}
use Rattle.hour_rules.specs.SettleHour.{SettleAnswer}
use Rattle.hour_rules.specs.SettleHour.{HourCall, hour_call, settle_outcome, settle_checked, SettlesHour}
use Rattle.order_rules.specs.Reordering.{Reordered}
use Rattle.order_rules.specs.Relief.{OptionMore}

-- ---- the same call on another book s, or under other limits

abbrev pub test_on : TestCall → List ℕ → TestCall
test_on q s = test_call q.nodes q.constraints q.process q.period q.limits q.factors s

abbrev pub test_under : TestCall → List ℕ → TestCall
test_under q limits = test_call q.nodes q.constraints q.process q.period limits q.factors q.book

abbrev pub hour_on : HourCall → List ℕ → HourCall
hour_on q s = hour_call q.nodes q.constraints q.period q.factors q.prices s

-- with a place of its own
abbrev pub flows_on : FlowsCall → List ℕ → List ℤ → FlowsCall
flows_on q s place = flows_call q.nodes q.constraints q.period q.limits q.factors s place

-- ---- "accepted": no check refuses the call, and the answer is what the entry promises

pub record Tested (q : TestCall) (answer : TestAnswer) : Type 0 where
  pub accepted : test_checked q ≡ passed
  pub promised : TestsBook q answer

pub record Found (q : FlowsCall) (answer : FlowsAnswer) (exit : List ℤ) : Type 0 where
  pub accepted : find_flows_checked q ≡ passed
  pub promised : FindsFlows q answer exit

pub record HourSettled (q : HourCall) (answer : SettleAnswer) (cents : Lent (List ℤ)) (sets : Lent (List ℕ)) : Type 0 where
  pub accepted : settle_checked q cents sets ≡ passed
  pub promised : SettlesHour q answer cents sets

-- a file that is accepted for n nodes, and read as the contracts that it was made of
pub record IsBook (n : ℕ) (f : Form) (cs : List Contract) : Type 0 where
  pub accepted : first (book_checks n (book_file f cs)) ≡ passed
  pub contracts : book_in (book_file f cs) ≡ cs

-- what two calls of settle_hour leave in their cells for contract i of the one book and contract j of the other
pub record SameHourCells (i j : ℕ) (cents cents₂ : Lent (List ℤ)) (sets sets₂ : Lent (List ℕ)) : Type 0 where
  pub same_cents : get_or (after cents) i (pos 0) ≡ get_or (after cents₂) j (pos 0)
  pub same_sets : get_or (after sets) i 0 ≡ get_or (after sets₂) j 0

-- THE STATEMENTS. s is the other book, each second answer and place that of the call on it.
pub record Entries : Type 0 where
  -- the same verdict, overload set, count, lowest and excess
  pub test-reordered : (q : TestCall) (s : List ℕ) (a b : TestAnswer) → Tested q a → Tested (test_on q s) b → Reordered (book_in q.book) (book_in s)
      → test_outcome a ≡ test_outcome b
  -- the same flow on each constraint, and as many contracts counted
  pub flows-reordered : (q : FlowsCall) (s : List ℕ) (place : List ℤ) (a b : FlowsAnswer) (x y : List ℤ) → Found q a x → Found (flows_on q s place) b y
      → Reordered (book_in q.book) (book_in s)
      → (flows_outcome a ≡ flows_outcome b) × ((k : ℕ) → k < q.constraints → get_or x k (pos 0) ≡ get_or y k (pos 0))
  -- and so what the test carries inside
  pub carried_reordered : (f : Factors) (cs ds : List Contract) (a b : Flows) → Carries f cs a → Carries f ds b → Reordered cs ds
      → ((k : ℕ) → k < f.constraints → get_or a.flows k (pos 0) ≡ get_or b.flows k (pos 0)) × (a.count ≡ b.count)
  -- the same sum, whole cents and parts
  pub settle_reordered : (q : HourCall) (s : List ℕ) (a b : SettleAnswer) (cents cents₂ : Lent (List ℤ)) (sets sets₂ : Lent (List ℕ))
      → HourSettled q a cents sets → HourSettled (hour_on q s) b cents₂ sets₂ → Reordered (book_in q.book) (book_in s) → settle_outcome a ≡ settle_outcome b
  -- "with each contract's cents moving with it", and its priced set
  pub settled_cells_move : (q : HourCall) (s : List ℕ) (a b : SettleAnswer) (cents cents₂ : Lent (List ℤ)) (sets sets₂ : Lent (List ℕ))
      → HourSettled q a cents sets → HourSettled (hour_on q s) b cents₂ sets₂
      → (i j : ℕ) → i < contract_count_in q.book → j < contract_count_in s → contract_at q.book i ≡ contract_at s j → SameHourCells i j cents cents₂ sets sets₂
  -- "Raising any limit never turns a pass into a failure."
  pub test-limits_raised : (q : TestCall) (limits : List ℕ) (a b : TestAnswer) → Tested q a → Tested (test_under q limits) b
      → ((k : ℕ) → k < q.constraints → limit q.limits k ≤ limit limits k) → a ≡ pass → b ≡ pass
  -- "Adding an option never turns a failure into a pass."
  pub test-option_added : (q : TestCall) (s : List ℕ) (a b : TestAnswer) → Tested q a → Tested (test_on q s) b → OptionMore (book_in q.book) (book_in s)
      → (a ≡ pass → ⊥) → b ≡ pass → ⊥
  -- an accepted book's contracts in any order, in its own width, are an accepted book; so they are in either width that can hold them
  pub reordered_is_accepted : (n : ℕ) (s : List ℕ) (ds : List Contract) → first (book_checks n s) ≡ passed → Reordered (book_in s) ds → IsBook n (book_form_in s) ds
  pub reordered_in_either_width : (n : ℕ) (s : List ℕ) (ds : List Contract) (f : Form) → first (book_checks n s) ≡ passed → Reordered (book_in s) ds
      → Each (ContractFits (end_width f)) (book_in s) → IsBook n f ds
