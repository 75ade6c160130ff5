-- Document 02, paper 14, over what the C functions promise: the same of the figures that they are lent. Statements only.
use Rattle.std.specs.Prelude.{◌≡◌, List, ℕ, ◌≤◌, ◌<◌, get_or, ℤ, pos, Ok}
use Rattle.lists.specs.Lent.{Lent, after}
use Rattle.tariff.specs.Refusals.{passed}
use Rattle.tariff.specs.Units.{limit}
use Rattle.layouts.specs.BookFile.{contract_count_in, contract_at, book_in}
use Rattle.test_rules.specs.TestBook.{TestCall, test_checked, TestsBookForC}
use Rattle.test_loading.specs.FindFlows.{FlowsCall, find_flows_checked, FindsFlowsForC}
use Rattle.hour_rules.specs.SettleHour.{HourCall, settle_checked, SettlesForC}
use Rattle.order_rules.specs.Reordering.{Reordered}
use Rattle.order_rules.specs.Relief.{OptionMore}
use Rattle.order_calls.specs.Entries.{test_on, test_under, hour_on, flows_on, SameHourCells}

-- ---- what is lent to the call, and what two calls leave there

pub record TestFigures : Type 0 where
  pub set : Lent ℕ
  pub count : Lent ℕ
  pub lowest : Lent ℕ
  pub excess : Lent ℤ

pub record SameTestGiven (c d : TestFigures) : Type 0 where
  pub same_set : after c.set ≡ after d.set
  pub same_count : after c.count ≡ after d.count
  pub same_lowest : after c.lowest ≡ after d.lowest
  pub same_excess : after c.excess ≡ after d.excess

pub record HourFigures : Type 0 where
  pub cents : Lent (List ℤ)
  pub sets : Lent (List ℕ)
  pub sum : Lent ℤ
  pub whole : Lent ℤ
  pub part : Lent ℕ

pub record SameTotalsGiven (c d : HourFigures) : Type 0 where
  pub same_sum : after c.sum ≡ after d.sum
  pub same_whole : after c.whole ≡ after d.whole
  pub same_parts : after c.part ≡ after d.part

-- ---- no check refuses the call, and the figures are what the function promises

pub record TestedForC (q : TestCall) (number : ℕ) (c : TestFigures) : Type 0 where
  pub accepted : test_checked q ≡ passed
  pub promised : TestsBookForC q number c.set c.count c.lowest c.excess

pub record FoundForC (q : FlowsCall) (number : ℕ) (exit : List ℤ) (counted : Lent ℕ) : Type 0 where
  pub accepted : find_flows_checked q ≡ passed
  pub promised : FindsFlowsForC q number exit counted

pub record SettledForC (q : HourCall) (number : ℕ) (c : HourFigures) : Type 0 where
  pub accepted : settle_checked q c.cents c.sets ≡ passed
  pub promised : SettlesForC q number c.cents c.sets c.sum c.whole c.part

-- THE STATEMENTS. An empty set is a pass.
pub record EntriesForC : Type 0 where
  pub crr_test_reordered : (q : TestCall) (s : List ℕ) (m n : ℕ) (c d : TestFigures) → TestedForC q m c → TestedForC (test_on q s) n d
      → Reordered (book_in q.book) (book_in s) → SameTestGiven c d
  pub crr_test_limits_raised : (q : TestCall) (limits : List ℕ) (m n : ℕ) (c d : TestFigures) → TestedForC q m c → TestedForC (test_under q limits) n d
      → ((k : ℕ) → k < q.constraints → limit q.limits k ≤ limit limits k) → after c.set ≡ 0 → after d.set ≡ 0
  pub crr_test_option_added : (q : TestCall) (s : List ℕ) (m n : ℕ) (c d : TestFigures) → TestedForC q m c → TestedForC (test_on q s) n d
      → OptionMore (book_in q.book) (book_in s) → (after c.set ≡ 0 → ⊥) → after d.set ≡ 0 → ⊥
  pub crr_flows_reordered : (q : FlowsCall) (s : List ℕ) (place : List ℤ) (m n : ℕ) (x y : List ℤ) (u v : Lent ℕ)
      → FoundForC q m x u → FoundForC (flows_on q s place) n y v → Reordered (book_in q.book) (book_in s)
      → (after u ≡ after v) × ((k : ℕ) → k < q.constraints → get_or x k (pos 0) ≡ get_or y k (pos 0))
  pub crr_settle_reordered : (q : HourCall) (s : List ℕ) (m n : ℕ) (c d : HourFigures) → SettledForC q m c → SettledForC (hour_on q s) n d
      → Reordered (book_in q.book) (book_in s) → SameTotalsGiven c d
  pub crr_settled_cells_move : (q : HourCall) (s : List ℕ) (m n : ℕ) (c d : HourFigures) → SettledForC q m c → SettledForC (hour_on q s) n d
      → (i j : ℕ) → i < contract_count_in q.book → j < contract_count_in s → contract_at q.book i ≡ contract_at s j
      → SameHourCells i j c.cents d.cents c.sets d.sets
