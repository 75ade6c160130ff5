-- Alike books are answered alike: checks around a book's own, and figures of flows and exact totals.
use mathlib.Core.Path.{◌≡◌, sym, ap, ◌∙◌}
use mathlib.Core.List.{List, [], ◌∷◌, ◌++◌}
use Prim.Native.Nat.{ℕ, ◌*◌}
use borrow.Author.Tests.{le-ltb}
use lib.ListN.{length, take}
use lib.IntN.{ℤ, pos}
use Rattle.lists.specs.Lists.{list_to}
use Rattle.lists.specs.Lent.{Lent, before, after}
use Rattle.lists.proofs.Lists.{length-list_to}
use Rattle.lists.proofs.Fronts.{front-is}
use Rattle.tariff.specs.Refusals.{Checked, passed}
use Rattle.std.specs.Prelude.{Ok, Err}
use Rattle.tariff.specs.Units.{factors_of}
use Rattle.tariff.specs.ContractRules.{period_of}
use Rattle.tariff.specs.Refusals.{Check, Outcome, first, decided, answered, cells_after, number_after}
use Rattle.tariff.specs.Checks.{node_count, constraint_count, period_number, short_table, limit_range, factor_range, price_range}
use Rattle.tariff.specs.Settlement.{whole_cents, parts}
use Rattle.tariff.proofs.Answers.{given-told, number-of, none-refused, figure-is}
use Rattle.tariff.proofs.Checks.{first-append, append_passes, first_passes, last-passes}
use Rattle.layouts.specs.BookFile.{contract_count_in}
use Rattle.grid_tables.specs.TableChecks.{grid_table_checks}
use Rattle.book_rules.specs.BookChecks.{book_checks}
use Rattle.book_rules.proofs.Accepted.{own_parts}
use Rattle.test_rules.specs.TestBook.{TestAnswer, pass}
use Rattle.test_rules.specs.TestBook.{TestCall, test_call, test_outcome, TestsBook, test_checks, test_checked}
use Rattle.test_rules.specs.TestBook.{tested_grid, tested_process, tested_contracts, test_values, TestCells, tested_cells}
use Rattle.test_rules.proofs.Figures.{same_test, same_cells}
use Rattle.test_rules.proofs.Judging.{passed_told}
use Rattle.test_loading.specs.FindFlows.{FlowsAnswer}
use Rattle.test_loading.specs.FindFlows.{FlowsCall, flows_call, find_flows_checks, find_flows_checked, counted_contracts, flow_cells, flows_outcome, FindsFlows}
use Rattle.hour_rules.specs.SettleHour.{SettleAnswer, settled}
use Rattle.hour_rules.specs.SettleHour.{HourCall, hour_call, settle_outcome, SettlesHour, SettlesForC, settle_checks}
use Rattle.hour_rules.specs.SettleHour.{settle_checked, hour_total, hour_factors, hour_prices, hour_period, sum_given, exact_given}
use Rattle.order_calls.specs.ForC.{HourFigures}
use Rattle.book_calls.specs.Alike.{AlikeBooks, FlowsAlike, RoomFor, AnsweredAlike}

-- the number of each answer is its checks'
flows-number : (q : FlowsCall) (a : FlowsAnswer) (x : List ℤ) → FindsFlows q a x → (flows_outcome a).number ≡ number_after (find_flows_checked q)
flows-number q a x h = ap (λ (o : Outcome). o.number) h.counted-given ∙ number-of (find_flows_checked q) (pos (length (counted_contracts q)) ∷ [])

hour_number : (q : HourCall) (a : SettleAnswer) (cents : Lent (List ℤ)) (sets : Lent (List ℕ)) → SettlesHour q a cents sets
    → (settle_outcome a).number ≡ number_after (settle_checked q cents sets)
hour_number q a cents sets h =
    ap (λ (o : Outcome). o.number) h.totals ∙ number-of (settle_checked q cents sets) (sum_given q ∷ whole_cents (exact_given q) ∷ pos (parts (exact_given q)) ∷ [])

-- answers with the same figures: a pass has none
pass_by : (a b : TestAnswer) → test_outcome a ≡ test_outcome b → a ≡ pass → b ≡ pass
pass_by a b e p = passed_told b (sym e ∙ ap test_outcome p)

-- the exact total given, of an answer and of figures
hour_told : (q : HourCall) (sum whole : ℤ) (part : ℕ) (cents : Lent (List ℤ)) (sets : Lent (List ℕ)) → SettlesHour q (settled sum whole part) cents sets
    → (whole ≡ whole_cents (exact_given q)) × (part ≡ parts (exact_given q))
hour_told q sum whole part cents sets h =
    let both : sum ∷ whole ∷ pos part ∷ [] ≡ sum_given q ∷ whole_cents (exact_given q) ∷ pos (parts (exact_given q)) ∷ []
    = (given-told (settle_checked q cents sets) _ _ h.totals).1 in
    (cc, cc)

figures-told : (q : HourCall) (c : HourFigures) → SettlesForC q 0 c.cents c.sets c.sum c.whole c.part
    → (after c.whole ≡ whole_cents (exact_given q)) × (after c.part ≡ parts (exact_given q))
figures-told q c h =
    let checked = settle_checked q c.cents c.sets in
    let ok = none-refused checked h.refusal-number in
    (figure-is checked ok _ _ _ h.whole-given, figure-is checked ok _ _ _ h.parts-given)

-- checks around a book's own that find nothing
pub around : (xs : List Check) (bs cs ys zs : List Check) → first bs ≡ passed → first cs ≡ passed → first ys ≡ first zs
    → first (xs ++ (bs ++ ys)) ≡ first (xs ++ (cs ++ zs))
around xs bs cs ys zs b c e =
    first-append xs (bs ++ ys) ∙ ap (decided (first xs) Err) (append_passes bs ys b ∙ e ∙ sym (append_passes cs zs c)) ∙ sym (first-append xs (cs ++ zs))

-- the checks of an hour, of two books that are accepted and have room alike
pub settle_around : (n k period : ℕ) (factors : List ℤ) (prices s t : List ℕ) (cents cents₂ : Lent (List ℤ)) (sets sets₂ : Lent (List ℕ))
    → first (book_checks n s) ≡ passed → first (book_checks n t) ≡ passed
    → first (short_table (length (before cents)) (contract_count_in s) ∷ short_table (length (before sets)) (contract_count_in s) ∷ [])
    ≡ first (short_table (length (before cents₂)) (contract_count_in t) ∷ short_table (length (before sets₂)) (contract_count_in t) ∷ [])
    → settle_checked (hour_call n k period factors prices s) cents sets ≡ settle_checked (hour_call n k period factors prices t) cents₂ sets₂
unfolding settle_checks
settle_around n k period factors prices s t cents cents₂ sets sets₂ =
    around
    (node_count n ∷ constraint_count k ∷ period_number period ∷ short_table (length factors) (n * k) ∷ short_table (length prices) k
    ∷ factor_range (take (n * k) factors) ∷ price_range (take k prices) ∷ [])
    (book_checks n s) (book_checks n t) (short_table (length (before cents)) (contract_count_in s) ∷ short_table (length (before sets)) (contract_count_in s) ∷ [])
    (short_table (length (before cents₂)) (contract_count_in t) ∷ short_table (length (before sets₂)) (contract_count_in t) ∷ [])

module _ (n : ℕ) (s t : List ℕ) (h : AlikeBooks n s t) where
  own_s : first (book_checks n s) ≡ passed
  own_s = (own_parts n s h.accepted).1

  own_t : first (book_checks n t) ≡ passed
  own_t = (own_parts n t h.accepted-too).1

  -- ---- the test

  module _ (k process period : ℕ) (limits : List ℕ) (factors : List ℤ) where
    abbrev on : List ℕ → TestCall
    on = test_call n k process period limits factors

    test-checks : test_checked (on s) ≡ test_checked (on t)
    unfolding test_checks
    test-checks =
        let tables = grid_table_checks n k process period limits factors in
        first-append tables (book_checks n s) ∙ ap (decided (first tables) Err) (own_s ∙ sym own_t) ∙ sym (first-append tables (book_checks n t))

    test-values : test_values (tested_grid (on s)) (tested_process (on s)) (tested_contracts (on s)) ≡ test_values (tested_grid (on t)) (tested_process (on t))
        (tested_contracts (on t))
    test-values =
        (same_test (tested_grid (on s)) (tested_process (on s)) (tested_contracts (on s)) (tested_contracts (on t))
        (h.flows-same (tested_grid (on s)).factors (period_of period))).figures-same

    test-cells : tested_cells (on s) ≡ tested_cells (on t)
    test-cells =
        same_cells (tested_grid (on s)) (tested_process (on s)) (tested_contracts (on s)) (tested_contracts (on t))
        (h.flows-same (tested_grid (on s)).factors (period_of period))

    test-same : (a b : TestAnswer) → TestsBook (on s) a → TestsBook (on t) b → test_outcome a ≡ test_outcome b
    test-same a b p q = p.figures ∙ (λ i. answered (test-checks i) (test-values i)) ∙ sym q.figures

  -- ---- flows

  module _ (k period : ℕ) (limits : List ℕ) (factors : List ℤ) (e f : List ℤ) (room : length e ≡ length f) where
    abbrev flows_s : FlowsCall
    flows_s = flows_call n k period limits factors s e

    abbrev flows_t : FlowsCall
    flows_t = flows_call n k period limits factors t f

    flow-checks : find_flows_checked flows_s ≡ find_flows_checked flows_t
    unfolding find_flows_checks
    flow-checks =
        around
        (node_count n ∷ constraint_count k ∷ period_number period ∷ short_table (length limits) k ∷ short_table (length factors) (n * k) ∷ limit_range (take k limits)
        ∷ factor_range (take (n * k) factors) ∷ [])
        (book_checks n s) (book_checks n t) (short_table (length e) k ∷ []) (short_table (length f) k ∷ []) own_s own_t
        (ap (λ (l : ℕ). first (short_table l k ∷ [])) room)

    flow-cells : flow_cells flows_s ≡ flow_cells flows_t
    flow-cells = λ i. list_to k (λ j. h.flows-same (factors_of n k factors) (period_of period) j i)

    taken : (q : FlowsCall) (x : List ℤ) → find_flows_checked q ≡ passed → x ≡ cells_after (find_flows_checked q) (flow_cells q) q.place
        → take q.constraints x ≡ flow_cells q
    taken q x ok is =
        ap (take q.constraints) (is ∙ ap (λ (c : Checked). cells_after c (flow_cells q) q.place) ok)
        ∙ front-is (flow_cells q) q.place q.constraints (length-list_to q.constraints _)

    flows-by : (a b : ℕ) (x y : List ℤ) → a ≡ number_after (find_flows_checked flows_s) → b ≡ number_after (find_flows_checked flows_t)
        → x ≡ cells_after (find_flows_checked flows_s) (flow_cells flows_s) e → y ≡ cells_after (find_flows_checked flows_t) (flow_cells flows_t) f → FlowsAlike k e f a b x y
    flows-by a b x y p q l m =
        record {
          same_number = p ∙ ap number_after flow-checks ∙ sym q;
          same_flows = λ z.
              let ok = none-refused (find_flows_checked flows_s) (sym z ∙ p) in
              taken flows_s x ok l ∙ flow-cells ∙ sym (taken flows_t y (sym flow-checks ∙ ok) m);
          same_place = λ z. l ∙ (λ i. cells_after (flow-checks i) (flow-cells i) (z i)) ∙ sym m;
        }

  -- ---- an hour

  module _ (k period : ℕ) (factors : List ℤ) (prices : List ℕ) where
    abbrev hour : List ℕ → HourCall
    hour = hour_call n k period factors prices

    roomy : (u : List ℕ) (cents : Lent (List ℤ)) (sets : Lent (List ℕ)) → RoomFor u cents sets
        → first (short_table (length (before cents)) (contract_count_in u) ∷ short_table (length (before sets)) (contract_count_in u) ∷ []) ≡ passed
    roomy u cents sets r =
        first_passes (short_table (length (before cents)) (contract_count_in u)) (short_table (length (before sets)) (contract_count_in u) ∷ [])
        (le-ltb (length (before cents)) (contract_count_in u) r.0)
        ∙ last-passes (short_table (length (before sets)) (contract_count_in u)) (le-ltb (length (before sets)) (contract_count_in u) r.1)

    hour_checks : (cents cents₂ : Lent (List ℤ)) (sets sets₂ : Lent (List ℕ)) → RoomFor s cents sets → RoomFor t cents₂ sets₂
        → settle_checked (hour s) cents sets ≡ settle_checked (hour t) cents₂ sets₂
    hour_checks cents cents₂ sets sets₂ r r₂ =
        settle_around n k period factors prices s t cents cents₂ sets sets₂ own_s own_t (roomy s cents sets r ∙ sym (roomy t cents₂ sets₂ r₂))

    exact_same : exact_given (hour s) ≡ exact_given (hour t)
    unfolding hour_total
    exact_same = h.totals-same (hour_factors (hour s)) (hour_prices (hour s)) (hour_period (hour s))

    by_total : (whole whole₂ : ℤ) (part part₂ : ℕ) → (whole ≡ whole_cents (exact_given (hour s))) × (part ≡ parts (exact_given (hour s)))
        → (whole₂ ≡ whole_cents (exact_given (hour t))) × (part₂ ≡ parts (exact_given (hour t))) → (whole ≡ whole₂) × (part ≡ part₂)
    by_total whole whole₂ part part₂ l m = (l.0 ∙ ap whole_cents exact_same ∙ sym m.0, l.1 ∙ ap parts exact_same ∙ sym m.1)

  pub answered-alike : AnsweredAlike n s t
  answered-alike =
      record {
        test-alike = test-same;
        pass_alike = λ k process period limits factors a b p q.
            let same = test-same k process period limits factors a b p q in
            (pass_by a b same, pass_by b a (sym same));
        flows-alike = λ k period limits factors e f room a b x y p q.
            flows-by k period limits factors e f room _ _ x y (flows-number _ a x p) (flows-number _ b y q) p.flows-found q.flows-found;
        settle_refused_alike = λ k period factors prices a b cents cents₂ sets sets₂ p q r r₂.
            hour_number _ a cents sets p ∙ ap number_after (hour_checks k period factors prices cents cents₂ sets sets₂ r r₂) ∙ sym (hour_number _ b cents₂ sets₂ q);
        settle_alike = λ k period factors prices sum whole sum₂ whole₂ part part₂ cents cents₂ sets sets₂ p q.
            by_total k period factors prices whole whole₂ part part₂ (hour_told _ sum whole part cents sets p) (hour_told _ sum₂ whole₂ part₂ cents₂ sets₂ q);
        crr_test_alike = λ k process period limits factors a b c d p q.
            let checks = test-checks k process period limits factors in
            let cells = test-cells k process period limits factors in (
              p.refusal-number ∙ ap number_after checks ∙ sym q.refusal-number,
              λ z.
                  let ok = none-refused _ (sym z ∙ p.refusal-number) in
                  let ok₂ = sym checks ∙ ok in
                  record {
                    same_set = figure-is _ ok _ _ _ p.set_given ∙ ap (λ (l : TestCells). l.set) cells ∙ sym (figure-is _ ok₂ _ _ _ q.set_given);
                    same_count = figure-is _ ok _ _ _ p.count-given ∙ ap (λ (l : TestCells). l.count) cells ∙ sym (figure-is _ ok₂ _ _ _ q.count-given);
                    same_lowest = figure-is _ ok _ _ _ p.lowest-given ∙ ap (λ (l : TestCells). l.lowest) cells ∙ sym (figure-is _ ok₂ _ _ _ q.lowest-given);
                    same_excess = figure-is _ ok _ _ _ p.excess-given ∙ ap (λ (l : TestCells). l.over) cells ∙ sym (figure-is _ ok₂ _ _ _ q.excess-given);
                  },
            );
        crr_flows_alike = λ k period limits factors e f room a b x y u v p q.
            flows-by k period limits factors e f room a b x y p.refusal-number q.refusal-number p.flows-found q.flows-found;
        crr_settle_refused_alike = λ k period factors prices a b c d p q r r₂.
            p.refusal-number ∙ ap number_after (hour_checks k period factors prices c.cents d.cents c.sets d.sets r r₂) ∙ sym q.refusal-number;
        crr_settle_alike = λ k period factors prices c d p q. by_total k period factors prices _ _ _ _ (figures-told _ c p) (figures-told _ d q);
      }
