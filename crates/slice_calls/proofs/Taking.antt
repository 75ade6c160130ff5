-- Slices and totals whose figures are in range draw no refusal.
use mathlib.Core.Path.{◌≡◌, refl, sym, ap, subst₂, ◌∙◌}
use mathlib.Core.Bool.{Bool, true, false, cond, ◌||◌}
use mathlib.Core.List.{List, [], ◌∷◌, ◌++◌}
use Prim.Native.Nat.{ℕ, zero, suc, ◌+◌, ◌*◌, ◌/◌, ◌%◌, ◌^◌, ◌≤◌, ◌<◌}
use native.Mathlib.Nat.{min-le_left, mul-zero, mod-lt, div-lt_iff_lt-mul}
use native.Mathlib.Omega.{arith}
use borrow.Author.Tests.{le-ltb, lt-leb, ne_eqb}
use lib.Dec.{eqb, ltb}
use lib.ListN.{length, get_or, take, length-take}
use lib.Seq.{get_or-take, take_all}
use lib.IntN.{ℤ, pos, nat_abs}
use Rattle.lists.specs.Lists.{Each, any_of, above}
use Rattle.lists.specs.Lent.{Lent, before}
use Rattle.lists.proofs.Lists.{length-list_to, get_d_list_to, each_at}
use Rattle.tariff.specs.declared.contracts.Contract.{Contract}
use Rattle.tariff.specs.declared.contracts.Period.{Period}
use Rattle.std.specs.Prelude.{Ok}
use Rattle.tariff.specs.Refusals.{passed}
use Rattle.tariff.specs.Units.{Factors, factor, max_factor, max_limit, max_price, max_quantity, max_nodes, max_constraints, max_flow}
use Rattle.tariff.specs.ContractRules.{period_of, same_period, of_period, InRange}
use Rattle.tariff.specs.Checks.{limit_bad, factor_bad_of, node_count, quantity_range, node_number, period_number, short_table}
use Rattle.tariff.specs.Inner.{FactorsInRange}
use Rattle.tariff.specs.Refusals.{Check, first}
use Rattle.tariff.proofs.Checks.{first_passes, last-passes, append_passes}
use Rattle.tariff.proofs.Sizes.{total_flow-sized}
use Rattle.layouts.specs.declared.forms.Form.{Form}
use Rattle.layouts.specs.Forms.{end_width}
use Rattle.layouts.specs.BookFile.{book_file, book_in, contract_count_in}
use Rattle.layouts.specs.BookTable.{ContractFits}
use Rattle.grid_tables.specs.TableChecks.{grid_table_checks, hour_tables_with}
use Rattle.book_rules.specs.BookChecks.{book_checks, contract_checks}
use Rattle.book_rules.proofs.Making.{Made, book-made}
use Rattle.test_rules.specs.TestBook.{test_checks, test_checked}
use Rattle.test_loading.specs.FindFlows.{find_flows_checks, find_flows_checked}
use Rattle.test_loading.specs.Theorems.{test_as}
use Rattle.test_loading.proofs.Passing.{all-fits}
use Rattle.test_totals.specs.Totals.{max_summed, beyond, no_totals_of, totals_range, summed_count}
use Rattle.test_totals.specs.AddFlows.{AddFlowsCall, add_flows_checks, add_flows_checked, summed}
use Rattle.test_totals.specs.JudgeFlows.{judge_call, judge_checks, judge_checked}
use Rattle.hour_rules.specs.SettleHour.{settle_checks, settle_checked}
use Rattle.slice_rules.specs.Slices.{Block, Pairwise, AllStandFor}
use Rattle.slice_rules.specs.Cutting.{renumbered, Renumbered}
use Rattle.slice_rules.proofs.Cutting.{all-stand}
use Rattle.slice_calls.specs.Taking.{BlockInRange, BlockLimits, BlockPrices, Held, SliceInRange, TotalsInRange}
use Rattle.slice_calls.specs.Taking.{slice_call, hour_slice_call, slice_factors, SlicesAreTaken}

-- ---- none of the first cells is bad

none_of : {A : Type 0} (bad : A → Bool) (xs : List A) (d : A) → ((i : ℕ) → i < length xs → bad (get_or xs i d) ≡ false) → any_of bad xs ≡ false
unfolding any_of
none_of bad [] d h = refl
none_of bad (x ∷ xs) d h = rw (h 0 (omega arith)) (none_of bad xs d (λ i b. h (suc i) (omega arith)))

none-bad : {A : Type 0} (bad : A → Bool) (k : ℕ) (xs : List A) (d : A) → ((j : ℕ) → j < k → bad (get_or xs j d) ≡ false) → any_of bad (take k xs) ≡ false
none-bad bad k xs d h =
    none_of bad (take k xs) d
    (λ j b.
    let l : j < k = omega (arith, length-take k xs, min-le_left k (length xs)) in
    rw (get_or-take k xs j d l) (h j l))

-- ---- the totals, and judging them

limits-good : (b : Block) (limits : List ℕ) → BlockLimits b limits → any_of limit_bad (take b.size limits) ≡ false
limits-good b limits l = none-bad limit_bad b.size limits 0 (λ j h. le-ltb max_limit _ (l.limits-sized j h))

module _ (whole : Factors) (b : Block) (ok : BlockInRange whole b) where
  in_range : FactorsInRange whole
  in_range = record { factor-sized = ok.factors-sized }

  module _ (flows : List ℤ) (count : ℕ) (t : TotalsInRange whole b flows count) (few : count ≤ max_summed) where
    are_totals : no_totals_of b.size count flows ≡ false
    unfolding no_totals_of
    are_totals =
        rw (le-ltb max_summed count few)
        (none-bad (beyond count) b.size flows (pos 0)
        (λ j l.
        le-ltb (max_flow * count) (nat_abs (get_or flows j (pos 0)))
        (rw (t.totals.flows-are j l, t.totals.count-is) (total_flow-sized whole in_range t.contracts (b.number j) t.contracts-in_range (ok.inside j l)))))

    pub judged : (process : ℕ) (limits : List ℕ) → BlockLimits b limits → process ≤ 2 → judge_checked (judge_call b.size process limits flows count) ≡ passed
    unfolding judge_checks
    judged process limits own h =
        first_passes _ _ (le-ltb max_constraints b.size ok.few)
        ∙ first_passes _ _ (le-ltb 2 process h)
        ∙ first_passes _ _ (le-ltb (length limits) b.size own.limits-long)
        ∙ first_passes _ _ (le-ltb (length flows) b.size t.flows_long)
        ∙ first_passes _ _ (limits-good b limits own)
        ∙ last-passes _ are_totals

  -- ---- the factors of a slice

  module _ (nodes : List ℕ) (below : Each (λ (n : ℕ). n < whole.nodes) nodes) where
    abbrev m : ℕ
    m = length nodes

    abbrev cells : List ℤ
    cells = (renumbered whole b nodes).cells

    cells-long : length cells ≡ m * b.size
    unfolding renumbered
    cells-long = length-list_to (m * b.size) (λ x. factor whole (get_or nodes (x / b.size) 0) (b.number (x % b.size)))

    some_columns : (k x : ℕ) → x < m * k → 0 < k
    some_columns zero x h = absurd (omega (arith, rw (mul-zero m) at h))
    some_columns (suc k) x h = omega arith

    cell_good : (x : ℕ) → x < m * b.size → factor_bad_of (get_or cells x (pos 0)) ≡ false
    unfolding renumbered
    cell_good x h =
        let k = b.size in
        let above : 0 < k = some_columns k x h in
        let node = each_at (λ (n : ℕ). n < whole.nodes) nodes (x / k) 0 below ((div-lt_iff_lt-mul above).1 h) in
        rw (get_d_list_to (m * k) (λ x. factor whole (get_or nodes (x / k) 0) (b.number (x % k))) x (pos 0) h)
        (le-ltb max_factor _ (ok.factors-sized _ _ node (ok.inside (x % k) (mod-lt x above))))

    factors-good : any_of factor_bad_of (take (m * b.size) cells) ≡ false
    factors-good = none-bad factor_bad_of (m * b.size) cells (pos 0) cell_good

-- ---- the book of a slice

held_fit : (n w : ℕ) (ds : List Contract) → n ≤ 2 ^ w → Each (Held n) ds → Each (ContractFits w) ds
held_fit n w [] l h = tt
held_fit n w (d ∷ ds) l h = (
  record {
    holder-fits = omega (arith, h.0.holder-sized);
    source_fits = omega (arith, h.0.in_range.source-below);
    sink-fits = omega (arith, h.0.in_range.sink-below);
    quantity-fits = omega (arith, h.0.in_range.quantity-sized);
  },
  held_fit n w ds l h.1,
)

held_pass : (n : ℕ) (ds : List Contract) → Each (Held n) ds → Each (λ d. first (contract_checks n d) ≡ passed) ds
unfolding contract_checks
held_pass n [] h = tt
held_pass n (d ∷ ds) h = (
  first_passes (node_number n d.source d.sink) _ (rw (lt-leb n d.source h.0.in_range.source-below, lt-leb n d.sink h.0.in_range.sink-below))
      ∙ last-passes (quantity_range d.quantity.0)
      (rw (ne_eqb d.quantity.0 0 (λ e. omega (arith, h.0.quantity-some)), le-ltb max_quantity d.quantity.0 h.0.in_range.quantity-sized)),
  held_pass n ds h.1,
)

pub period-shorter : (t : Period) (xs : List Contract) → length (of_period t xs) ≤ length xs
unfolding of_period
period-shorter t [] = omega arith
period-shorter t (x ∷ xs) = by (same_period x.period t) (period-shorter t xs)
  where
    by : (b : Bool) → length (of_period t xs) ≤ length xs → length (cond b (x ∷ of_period t xs) (of_period t xs)) ≤ suc (length xs)
    by true h = omega arith
    by false h = omega arith

-- ---- the calls

module _ (whole : Factors) (b : Block) (form : Form) (nodes : List ℕ) (ds : List Contract) (ok : BlockInRange whole b) (own : SliceInRange whole form nodes ds) where
  abbrev n : ℕ
  n = length nodes

  abbrev table : List ℤ
  table = (renumbered whole b nodes).cells

  abbrev file : List ℕ
  file = book_file form ds

  made : Made form n ds
  made = book-made form n ds own.contracts-few (held_fit n (end_width form) ds own.form-holds own.contracts-held) (held_pass n ds own.contracts-held)

  nodes-good : (eqb n 0 || ltb max_nodes n) ≡ false
  nodes-good = let some = own.nodes-some in rw (ne_eqb n 0 (λ e. omega arith), le-ltb max_nodes n own.nodes-few)

  table-long : ltb (length table) (n * b.size) ≡ false
  table-long = le-ltb (length table) (n * b.size) (omega (arith, cells-long whole b ok nodes own.nodes-of_whole))

  factors-are : slice_factors whole b nodes ≡ renumbered whole b nodes
  unfolding renumbered
  factors-are =
      let all = take_all (n * b.size) table (omega (arith, cells-long whole b ok nodes own.nodes-of_whole)) in
      ap (λ (cells : List ℤ). record { nodes = n; constraints = b.size; cells = cells }) all

  pub stands : (cs : List Contract) → Pairwise (Renumbered nodes) cs ds → AllStandFor whole b (slice_factors whole b nodes) cs (book_in file)
  stands cs r = subst₂ (λ (f : Factors) (l : List Contract). AllStandFor whole b f cs l) (sym factors-are) (sym made.contracts) (all-stand whole b nodes cs ds r)

  module _ (period : ℕ) (h : period ≤ 1) where
    -- ---- of add_flows
    module _ (limits : List ℕ) (l : BlockLimits b limits) (flows : List ℤ) (count : ℕ) where
      abbrev q : AddFlowsCall
      q = slice_call whole b period limits form nodes ds flows count

      tables-pass : first (grid_table_checks n b.size 0 period limits table) ≡ passed
      unfolding grid_table_checks
      tables-pass =
          first_passes (node_count n) _ nodes-good
          ∙ first_passes _ _ (le-ltb max_constraints b.size ok.few)
          ∙ first_passes _ _ refl
          ∙ first_passes _ _ (le-ltb 1 period h)
          ∙ first_passes _ _ (le-ltb (length limits) b.size l.limits-long)
          ∙ first_passes _ _ table-long
          ∙ first_passes _ _ (limits-good b limits l)
          ∙ last-passes _ (factors-good whole b ok nodes own.nodes-of_whole)

      test-passes : test_checked (test_as 0 q.asked) ≡ passed
      unfolding test_checks
      test-passes = append_passes (grid_table_checks n b.size 0 period limits table) (book_checks n file) tables-pass ∙ made.accepted

      pub taken : TotalsInRange whole b flows count → count + length ds ≤ max_summed → add_flows_checked q ≡ passed
      unfolding add_flows_checks
      taken t few =
          let flows-pass : find_flows_checked q.asked ≡ passed = sym (all-fits q.asked (test_checked (test_as 0 q.asked)) refl test-passes t.flows_long) in
          let fewer : summed q ≤ max_summed = omega (arith, period-shorter (period_of period) (book_in file), ap length made.contracts) in
          append_passes (find_flows_checks q.asked) (totals_range b.size count flows ∷ summed_count (summed q) ∷ []) flows-pass
          ∙ first_passes (totals_range b.size count flows) _ (are_totals whole b ok flows count t (omega arith))
          ∙ last-passes (summed_count (summed q)) (le-ltb max_summed (summed q) fewer)

    -- ---- of settle_hour
    module _ (prices : List ℕ) (p : BlockPrices b prices) (cents : Lent (List ℤ)) (sets : Lent (List ℕ)) where
      abbrev tables : List Check
      tables = hour_tables_with (period_number period ∷ []) [] n b.size table prices

      abbrev rooms : List Check
      rooms = short_table (length (before cents)) (contract_count_in file) ∷ short_table (length (before sets)) (contract_count_in file) ∷ []

      hour_tables_pass : first tables ≡ passed
      hour_tables_pass =
          first_passes (node_count n) _ nodes-good
          ∙ first_passes _ _ (le-ltb max_constraints b.size ok.few)
          ∙ first_passes _ _ (le-ltb 1 period h)
          ∙ first_passes _ _ table-long
          ∙ first_passes _ _ (le-ltb (length prices) b.size p.prices-long)
          ∙ first_passes _ _ (factors-good whole b ok nodes own.nodes-of_whole)
          ∙ last-passes _ (none-bad (above max_price) b.size prices 0 (λ j h. le-ltb max_price _ (p.prices-sized j h)))

      hour_taken : length ds ≤ length (before cents) → length ds ≤ length (before sets)
          → settle_checked (hour_slice_call whole b period prices form nodes ds) cents sets ≡ passed
      unfolding settle_checks
      hour_taken room-cents room-sets =
          append_passes tables (book_checks n file ++ rooms) hour_tables_pass
          ∙ append_passes (book_checks n file) rooms made.accepted
          ∙ first_passes _ _ (le-ltb (length (before cents)) (contract_count_in file) (omega (arith, made.count)))
          ∙ last-passes _ (le-ltb (length (before sets)) (contract_count_in file) (omega (arith, made.count)))

pub slices-are_taken : SlicesAreTaken
slices-are_taken =
    record {
      slice_stands = λ whole b form nodes cs ds ok own. stands whole b form nodes ds ok own cs;
      slice_is_taken = λ whole b period limits form nodes ds flows count ok l own h. taken whole b form nodes ds ok own period h limits l flows count;
      totals-are_judged = λ whole b process limits flows count ok l h t few. judged whole b ok flows count t few process limits l h;
      hour_is_taken = λ whole b period prices form nodes ds cents sets ok p own h. hour_taken whole b form nodes ds ok own period h prices p cents sets;
    }
