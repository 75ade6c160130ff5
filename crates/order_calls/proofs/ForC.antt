-- The same of the figures that the C functions are lent.
use mathlib.Core.Path.{◌≡◌, sym, ap, ◌∙◌}
use mathlib.Core.Logic.{◌↔◌}
use mathlib.Core.List.{List}
use Prim.Native.Nat.{ℕ, ◌≤◌, ◌<◌}
use lib.ListN.{length, get_or}
use lib.IntN.{ℤ, pos}
use Rattle.lists.specs.Lent.{Lent, before, after}
use Rattle.tariff.specs.Units.{limit, factors_of}
use Rattle.tariff.specs.ContractRules.{period_of}
use Rattle.tariff.specs.Feasibility.{Passes}
use Rattle.tariff.specs.Settlement.{whole_cents, parts}
use Rattle.tariff.proofs.Answers.{figure-is}
use Rattle.tariff.proofs.Theorems.{pass_is_worst_zero}
use Rattle.layouts.specs.BookFile.{contract_count_in, contract_at, book_in}
use Rattle.test_rules.specs.TestBook.{TestCall, test_checked, tested_grid, tested_process, tested_contracts, TestCells, tested_cells}
use Rattle.test_rules.proofs.Figures.{same_cells}
use Rattle.test_loading.specs.FindFlows.{FlowsCall, find_flows_checked, counted_contracts}
use Rattle.test_loading.proofs.Passing.{flow-is}
use Rattle.hour_rules.specs.SettleHour.{HourCall, settle_checked, hour_factors, hour_prices, hour_period, sum_given, exact_given}
use Rattle.order_rules.specs.Reordering.{Reordered}
use Rattle.order_rules.specs.Relief.{OptionMore}
use Rattle.order_rules.proofs.Theorems.{reordering, relief}
use Rattle.order_calls.specs.Entries.{test_on, test_under, hour_on, flows_on, SameHourCells}
use Rattle.order_calls.specs.ForC.{TestFigures, SameTestGiven, HourFigures, SameTotalsGiven, TestedForC, FoundForC, SettledForC}
use Rattle.order_calls.proofs.Values.{totals-kept}
use Rattle.order_calls.proofs.Answers.{still_passes, CellsGiven, cells_same}

-- ---- the test

module _ (q : TestCall) (n : ℕ) (c : TestFigures) (h : TestedForC q n c) where
  set_is : after c.set ≡ (tested_cells q).set
  set_is = figure-is (test_checked q) h.accepted _ _ _ h.promised.set_given

  count-is : after c.count ≡ (tested_cells q).count
  count-is = figure-is (test_checked q) h.accepted _ _ _ h.promised.count-given

  lowest-is : after c.lowest ≡ (tested_cells q).lowest
  lowest-is = figure-is (test_checked q) h.accepted _ _ _ h.promised.lowest-given

  excess-is : after c.excess ≡ (tested_cells q).over
  excess-is = figure-is (test_checked q) h.accepted _ _ _ h.promised.excess-given

  -- the set is empty exactly where the rules pass
  empty_is : (after c.set ≡ 0) ↔ Passes (tested_grid q) (tested_process q) (tested_contracts q)
  empty_is =
      let d = (h.promised.demand3 h.accepted).empty_is_worst_zero in
      let w = pass_is_worst_zero (tested_grid q) (tested_process q) (period_of q.period) (book_in q.book) in
      (λ e. w.1 (d.0 e), λ p. d.1 (w.0 p))

module _ (q : TestCall) (s : List ℕ) (m n : ℕ) (c d : TestFigures) (h : TestedForC q m c) (l : TestedForC (test_on q s) n d) where
  pub test-same_for_c : Reordered (book_in q.book) (book_in s) → SameTestGiven c d
  test-same_for_c p =
      let same : tested_cells q ≡ tested_cells (test_on q s)
      = same_cells (tested_grid q) (tested_process q) (tested_contracts q) (tested_contracts (test_on q s))
      (reordering.reorder_keeps_overloads (tested_grid q) (tested_process q) (period_of q.period) (book_in q.book) (book_in s) p).flows-same in
      record {
        same_set = set_is q m c h ∙ ap (λ (t : TestCells). t.set) same ∙ sym (set_is (test_on q s) n d l);
        same_count = count-is q m c h ∙ ap (λ (t : TestCells). t.count) same ∙ sym (count-is (test_on q s) n d l);
        same_lowest = lowest-is q m c h ∙ ap (λ (t : TestCells). t.lowest) same ∙ sym (lowest-is (test_on q s) n d l);
        same_excess = excess-is q m c h ∙ ap (λ (t : TestCells). t.over) same ∙ sym (excess-is (test_on q s) n d l);
      }

  pub option_for_c : OptionMore (book_in q.book) (book_in s) → (after c.set ≡ 0 → ⊥) → after d.set ≡ 0 → ⊥
  option_for_c o fails e =
      fails ((empty_is q m c h).1
      (relief.passed_before_option (tested_grid q) (tested_process q) (period_of q.period) (book_in q.book) (book_in s) o ((empty_is (test_on q s) n d l).0 e)))

pub raised-for_c : (q : TestCall) (limits : List ℕ) (m n : ℕ) (c d : TestFigures) → TestedForC q m c → TestedForC (test_under q limits) n d
    → ((k : ℕ) → k < q.constraints → limit q.limits k ≤ limit limits k) → after c.set ≡ 0 → after d.set ≡ 0
raised-for_c q limits m n c d h l up e = (empty_is (test_under q limits) n d l).1 (still_passes q limits up ((empty_is q m c h).0 e))

-- ---- flows

pub flows-for_c : (q : FlowsCall) (s : List ℕ) (place : List ℤ) (m n : ℕ) (x y : List ℤ) (u v : Lent ℕ) → FoundForC q m x u → FoundForC (flows_on q s place) n y v
    → Reordered (book_in q.book) (book_in s) → (after u ≡ after v) × ((k : ℕ) → k < q.constraints → get_or x k (pos 0) ≡ get_or y k (pos 0))
flows-for_c q s place m n x y u v h l p =
    let r = flows_on q s place in
    let same = reordering.reorder_keeps_flows (factors_of q.nodes q.constraints q.factors) (period_of q.period) (book_in q.book) (book_in s) p in (
      figure-is (find_flows_checked q) h.accepted (length (counted_contracts q)) (before u) (after u) h.promised.counted-given ∙ same.counted_same
          ∙ sym (figure-is (find_flows_checked r) l.accepted (length (counted_contracts r)) (before v) (after v) l.promised.counted-given),
      λ k i. flow-is q x h.accepted h.promised.flows-found k i ∙ same.flows-same k ∙ sym (flow-is r y l.accepted l.promised.flows-found k i),
    )

-- ---- an hour

module _ (q : HourCall) (n : ℕ) (c : HourFigures) (h : SettledForC q n c) where
  sum_is : after c.sum ≡ sum_given q
  sum_is = figure-is (settle_checked q c.cents c.sets) h.accepted _ _ _ h.promised.sum-given

  whole_is : after c.whole ≡ whole_cents (exact_given q)
  whole_is = figure-is (settle_checked q c.cents c.sets) h.accepted _ _ _ h.promised.whole-given

  parts_is : after c.part ≡ parts (exact_given q)
  parts_is = figure-is (settle_checked q c.cents c.sets) h.accepted _ _ _ h.promised.parts-given

  pub cells-given : CellsGiven q c.cents c.sets
  cells-given = record { passed = h.accepted; cents-given = h.promised.cents-settled; sets-given = h.promised.sets-handed_on }

module _ (q : HourCall) (s : List ℕ) (m n : ℕ) (c d : HourFigures) (h : SettledForC q m c) (l : SettledForC (hour_on q s) n d) where
  pub totals-for_c : Reordered (book_in q.book) (book_in s) → SameTotalsGiven c d
  totals-for_c p =
      let same = totals-kept (hour_factors q) (hour_prices q) (hour_period q) (book_in q.book) (book_in s) p in
      record {
        same_sum = sum_is q m c h ∙ same.sum_same ∙ sym (sum_is (hour_on q s) n d l);
        same_whole = whole_is q m c h ∙ ap whole_cents same.exact_same ∙ sym (whole_is (hour_on q s) n d l);
        same_parts = parts_is q m c h ∙ ap parts same.exact_same ∙ sym (parts_is (hour_on q s) n d l);
      }

  pub move_for_c : (i j : ℕ) → i < contract_count_in q.book → j < contract_count_in s → contract_at q.book i ≡ contract_at s j
      → SameHourCells i j c.cents d.cents c.sets d.sets
  move_for_c = cells_same q s c.cents d.cents c.sets d.sets (cells-given q m c h) (cells-given (hour_on q s) n d l)
