-- What two answers to accepted calls have in common: each is a rewriting of what the entries promise.
use mathlib.Core.Path.{◌≡◌, refl, sym, ap, ◌∙◌}
use mathlib.Core.Logic.{◌↔◌}
use mathlib.Core.List.{List, [], ◌∷◌, map}
use Prim.Native.Nat.{ℕ, ◌≤◌, ◌<◌}
use lib.ListN.{length, get_or, get_or-append}
use lib.Seq.{get_or-take}
use lib.IntN.{ℤ, pos}
use Rattle.lists.specs.Lists.{list_to}
use Rattle.lists.specs.Lent.{Lent, before, after, overwrite}
use Rattle.lists.proofs.Lists.{length-list_to, get_d_list_to, map-list_to}
use Rattle.tariff.specs.declared.contracts.Contract.{Contract}
use Rattle.tariff.specs.Refusals.{Checked, passed}
use Rattle.std.specs.Prelude.{Ok}
use Rattle.tariff.specs.Units.{Factors, limit, factors_of}
use Rattle.tariff.specs.ContractRules.{period_of}
use Rattle.tariff.specs.Refusals.{given, answered, cells_after}
use Rattle.tariff.specs.Feasibility.{Passes}
use Rattle.tariff.specs.Settlement.{whole_cents, parts}
use Rattle.tariff.proofs.Theorems.{pass_is_worst_zero}
use Rattle.layouts.specs.BookFile.{contract_count_in, contract_at, book_in}
use Rattle.test_rules.specs.declared.Flows.{Flows}
use Rattle.test_rules.specs.TestBook.{TestAnswer, pass}
use Rattle.test_rules.specs.TestBook.{TestCall, test_outcome, tested_grid, tested_process, tested_contracts, test_values}
use Rattle.test_rules.specs.Carried.{Carries}
use Rattle.test_loading.specs.FindFlows.{FlowsAnswer}
use Rattle.test_loading.specs.FindFlows.{FlowsCall, flows_outcome, counted_contracts}
use Rattle.test_loading.proofs.Passing.{flow-is}
use Rattle.hour_rules.specs.SettleHour.{SettleAnswer}
use Rattle.hour_rules.specs.SettleHour.{HourCall, settle_outcome, settle_checked, hour_factors, hour_prices, hour_period, cents_of, priced_of, cents_cells, priced_cells, sum_given, exact_given}
use Rattle.order_rules.specs.Reordering.{Reordered}
use Rattle.order_rules.specs.Relief.{Raised, OptionMore}
use Rattle.order_rules.proofs.Figures.{flows-perm}
use Rattle.order_rules.proofs.Theorems.{reordering, relief}
use Rattle.order_calls.specs.Entries.{test_on, test_under, hour_on, flows_on, Tested, Found, HourSettled, SameHourCells}
use Rattle.order_calls.proofs.Values.{verdict_kept, totals-kept}

-- ---- the test

pub still_passes : (q : TestCall) (limits : List ℕ) → ((k : ℕ) → k < q.constraints → limit q.limits k ≤ limit limits k)
    → Passes (tested_grid q) (tested_process q) (tested_contracts q) → Passes (tested_grid (test_under q limits)) (tested_process q) (tested_contracts q)
still_passes q limits up =
    let k = q.constraints in
    let more : Raised (tested_grid q) (tested_grid (test_under q limits))
    = record { factors-same = refl; limits-raised = λ j i. rw (get_or-take k q.limits j 0 i, get_or-take k limits j 0 i) (up j i) } in
    relief.raised-limit_keeps_pass (tested_grid q) (tested_grid (test_under q limits)) (tested_process q) (period_of q.period) (book_in q.book) more

module _ (q : TestCall) (a : TestAnswer) (h : Tested q a) where
  outcome-is : test_outcome a ≡ given (test_values (tested_grid q) (tested_process q) (tested_contracts q))
  outcome-is = h.promised.figures ∙ ap (λ (c : Checked). answered c (test_values (tested_grid q) (tested_process q) (tested_contracts q))) h.accepted

  -- Pass is answered exactly where the rules pass
  pass_is : (a ≡ pass) ↔ Passes (tested_grid q) (tested_process q) (tested_contracts q)
  pass_is =
      let d = (h.promised.demand3 h.accepted).pass_is_worst_zero in
      let w = pass_is_worst_zero (tested_grid q) (tested_process q) (period_of q.period) (book_in q.book) in
      (λ e. w.1 (d.0 e), λ p. d.1 (w.0 p))

module _ (q : TestCall) (s : List ℕ) (a b : TestAnswer) (h : Tested q a) (l : Tested (test_on q s) b) where
  pub test-same : Reordered (book_in q.book) (book_in s) → test_outcome a ≡ test_outcome b
  test-same p =
      outcome-is q a h ∙ ap given (verdict_kept (tested_grid q) (tested_process q) (period_of q.period) (book_in q.book) (book_in s) p)
      ∙ sym (outcome-is (test_on q s) b l)

  pub test-option : OptionMore (book_in q.book) (book_in s) → (a ≡ pass → ⊥) → b ≡ pass → ⊥
  test-option o fails e =
      fails ((pass_is q a h).1
      (relief.passed_before_option (tested_grid q) (tested_process q) (period_of q.period) (book_in q.book) (book_in s) o ((pass_is (test_on q s) b l).0 e)))

pub test-raised : (q : TestCall) (limits : List ℕ) (a b : TestAnswer) → Tested q a → Tested (test_under q limits) b
    → ((k : ℕ) → k < q.constraints → limit q.limits k ≤ limit limits k) → a ≡ pass → b ≡ pass
test-raised q limits a b h l up e = (pass_is (test_under q limits) b l).1 (still_passes q limits up ((pass_is q a h).0 e))

-- ---- flows

pub carried_same : (f : Factors) (cs ds : List Contract) (a b : Flows) → Carries f cs a → Carries f ds b → Reordered cs ds
    → ((k : ℕ) → k < f.constraints → get_or a.flows k (pos 0) ≡ get_or b.flows k (pos 0)) × (a.count ≡ b.count)
carried_same f cs ds a b x y p =
    let same = flows-perm f cs ds p in
    (λ k l. x.flows-are k l ∙ same.flows-same k ∙ sym (y.flows-are k l), x.count-is ∙ same.counted_same ∙ sym y.count-is)

module _ (q : FlowsCall) (a : FlowsAnswer) (x : List ℤ) (h : Found q a x) where
  counted_is : flows_outcome a ≡ given (pos (length (counted_contracts q)) ∷ [])
  counted_is = h.promised.counted-given ∙ ap (λ (c : Checked). answered c (pos (length (counted_contracts q)) ∷ [])) h.accepted

pub flows-same : (q : FlowsCall) (s : List ℕ) (place : List ℤ) (a b : FlowsAnswer) (x y : List ℤ) → Found q a x → Found (flows_on q s place) b y
    → Reordered (book_in q.book) (book_in s)
    → (flows_outcome a ≡ flows_outcome b) × ((k : ℕ) → k < q.constraints → get_or x k (pos 0) ≡ get_or y k (pos 0))
flows-same q s place a b x y h l p =
    let same = reordering.reorder_keeps_flows (factors_of q.nodes q.constraints q.factors) (period_of q.period) (book_in q.book) (book_in s) p in (
      counted_is q a x h ∙ ap (λ (n : ℕ). given (pos n ∷ [])) same.counted_same ∙ sym (counted_is (flows_on q s place) b y l),
      λ k i.
          flow-is q x h.accepted h.promised.flows-found k i ∙ same.flows-same k
          ∙ sym (flow-is (flows_on q s place) y l.accepted l.promised.flows-found k i),
    )

-- ---- an hour

-- cell i of a place that took one figure of each contract
cell_of_lem : {A : Type 0} (s : List ℕ) (v : Contract → A) (entry exit : List A) (d : A) → exit ≡ overwrite (map v (book_in s)) entry
    → (i : ℕ) → i < contract_count_in s → get_or exit i d ≡ v (contract_at s i)
cell_of_lem s v entry exit d is i l =
    let cells = list_to (contract_count_in s) (λ j. v (contract_at s j)) in
    ap (λ (c : List _). get_or c i d) (is ∙ ap (λ (c : List _). overwrite c entry) (map-list_to (contract_count_in s) (contract_at s) v))
    ∙ get_or-append cells _ d i (rw (length-list_to (contract_count_in s) (λ j. v (contract_at s j))) l)
    ∙ get_d_list_to (contract_count_in s) (λ j. v (contract_at s j)) i d l

module _ (q : HourCall) (a : SettleAnswer) (cents : Lent (List ℤ)) (sets : Lent (List ℕ)) (h : HourSettled q a cents sets) where
  hour_is : settle_outcome a ≡ given (sum_given q ∷ whole_cents (exact_given q) ∷ pos (parts (exact_given q)) ∷ [])
  hour_is = h.promised.totals ∙ ap (λ (c : Checked). answered c (sum_given q ∷ whole_cents (exact_given q) ∷ pos (parts (exact_given q)) ∷ [])) h.accepted

-- the cells of two accepted calls, by what each promises of them
module _ (q : HourCall) (cents : Lent (List ℤ)) (sets : Lent (List ℕ)) (ok : settle_checked q cents sets ≡ passed) where
  pub cents-is : after cents ≡ cells_after (settle_checked q cents sets) (cents_cells q) (before cents)
      → (i : ℕ) → i < contract_count_in q.book → get_or (after cents) i (pos 0) ≡ cents_of (hour_factors q) (hour_prices q) (hour_period q) (contract_at q.book i)
  cents-is is =
      cell_of_lem q.book (cents_of (hour_factors q) (hour_prices q) (hour_period q)) (before cents) (after cents) (pos 0)
      (is ∙ ap (λ (c : Checked). cells_after c (cents_cells q) (before cents)) ok)

  pub set_is : after sets ≡ cells_after (settle_checked q cents sets) (priced_cells q) (before sets)
      → (i : ℕ) → i < contract_count_in q.book → get_or (after sets) i 0 ≡ priced_of (hour_factors q) (hour_prices q) (hour_period q) (contract_at q.book i)
  set_is is =
      cell_of_lem q.book (priced_of (hour_factors q) (hour_prices q) (hour_period q)) (before sets) (after sets) 0
      (is ∙ ap (λ (c : Checked). cells_after c (priced_cells q) (before sets)) ok)

-- what a call promises of its cells
pub record CellsGiven (q : HourCall) (cents : Lent (List ℤ)) (sets : Lent (List ℕ)) : Type 0 where
  pub passed : settle_checked q cents sets ≡ passed
  pub cents-given : after cents ≡ cells_after (settle_checked q cents sets) (cents_cells q) (before cents)
  pub sets-given : after sets ≡ cells_after (settle_checked q cents sets) (priced_cells q) (before sets)

pub cells_same : (q : HourCall) (s : List ℕ) (cents cents₂ : Lent (List ℤ)) (sets sets₂ : Lent (List ℕ)) → CellsGiven q cents sets → CellsGiven (hour_on q s) cents₂ sets₂
    → (i j : ℕ) → i < contract_count_in q.book → j < contract_count_in s → contract_at q.book i ≡ contract_at s j → SameHourCells i j cents cents₂ sets sets₂
cells_same q s cents cents₂ sets sets₂ g h i j x y e =
    record {
      same_cents =
          cents-is q cents sets g.passed g.cents-given i x ∙ ap (cents_of (hour_factors q) (hour_prices q) (hour_period q)) e
          ∙ sym (cents-is (hour_on q s) cents₂ sets₂ h.passed h.cents-given j y);
      same_sets =
          set_is q cents sets g.passed g.sets-given i x ∙ ap (priced_of (hour_factors q) (hour_prices q) (hour_period q)) e
          ∙ sym (set_is (hour_on q s) cents₂ sets₂ h.passed h.sets-given j y);
    }

module _ (q : HourCall) (s : List ℕ) (a b : SettleAnswer) (cents cents₂ : Lent (List ℤ)) (sets sets₂ : Lent (List ℕ)) (h : HourSettled q a cents sets)
    (l : HourSettled (hour_on q s) b cents₂ sets₂) where
  pub settle_same : Reordered (book_in q.book) (book_in s) → settle_outcome a ≡ settle_outcome b
  settle_same p =
      let same = totals-kept (hour_factors q) (hour_prices q) (hour_period q) (book_in q.book) (book_in s) p in
      hour_is q a cents sets h
      ∙ (λ i. given (same.sum_same i ∷ whole_cents (same.exact_same i) ∷ pos (parts (same.exact_same i)) ∷ []))
      ∙ sym (hour_is (hour_on q s) b cents₂ sets₂ l)

  pub settled_move : (i j : ℕ) → i < contract_count_in q.book → j < contract_count_in s → contract_at q.book i ≡ contract_at s j
      → SameHourCells i j cents cents₂ sets sets₂
  settled_move =
      cells_same q s cents cents₂ sets sets₂ (record { passed = h.accepted; cents-given = h.promised.cents-settled; sets-given = h.promised.sets-handed_on })
      (record { passed = l.accepted; cents-given = l.promised.cents-settled; sets-given = l.promised.sets-handed_on })
