-- What steps of a test leave in the totals.
use mathlib.Core.Path.{◌≡◌, refl, sym, ap, ap₂, subst, ◌∙◌}
use mathlib.Core.List.{List, ◌++◌}
use Prim.Native.Nat.{ℕ, ◌+◌, ◌<◌}
use lib.ListN.{length, get_or, length-append}
use lib.IntN.{ℤ, pos, ◌+ℤ◌}
use Rattle.lists.specs.Lent.{overwrite}
use Rattle.lists.proofs.Lists.{length-list_to, get_d_list_to}
use Rattle.lists.proofs.Fronts.{front_at}
use Rattle.integers.specs.Sums.{sum_over_of}
use Rattle.integers.proofs.Sums.{sum_over-append}
use Rattle.tariff.specs.declared.contracts.Contract.{Contract}
use Rattle.tariff.specs.declared.contracts.Period.{Period}
use Rattle.tariff.specs.Refusals.{Checked, passed}
use Rattle.std.specs.Prelude.{Ok}
use Rattle.tariff.specs.Units.{Factors}
use Rattle.tariff.specs.ContractRules.{period_of, of_period}
use Rattle.tariff.specs.Refusals.{cells_after}
use Rattle.tariff.specs.Feasibility.{flow, total_flow}
use Rattle.tariff.proofs.Answers.{figure-is}
use Rattle.tariff.proofs.Periods.{of_period-append}
use Rattle.layouts.specs.BookFile.{book_in}
use Rattle.test_loading.specs.FindFlows.{counted_contracts}
use Rattle.test_totals.specs.AddFlows.{AddFlowsCall, add_flows_checked, added_factors, summed, flows_summed, TotalsLeft}
use Rattle.slice_rules.specs.Slices.{Block, AllStandFor}
use Rattle.slice_rules.specs.Totals.{Totals}
use Rattle.slice_rules.proofs.Flowing.{stands-total, stands-period, stands-length}
use Rattle.slice_calls.specs.Calls.{Added, Step, Summed}

left_by : (q : AddFlowsCall) (flows : List ℤ) (count : ℕ) → Added q flows count → TotalsLeft q flows count
left_by q flows count (Added.by_entry answer adds) = adds.totals
left_by q flows count (Added.by_crr number counted adds) = adds.totals

module _ (q : AddFlowsCall) (flows : List ℤ) (count : ℕ) (left : TotalsLeft q flows count) (told : add_flows_checked q ≡ passed) where
  pub flows-left : flows ≡ overwrite (flows_summed q) q.asked.place
  flows-left = left.flows-added ∙ ap (λ (x : Checked). cells_after x (flows_summed q) q.asked.place) told

  cell_is : (j : ℕ) → j < q.asked.constraints
      → get_or flows j (pos 0) ≡ get_or q.asked.place j (pos 0) +ℤ total_flow (added_factors q) (counted_contracts q.asked) j
  cell_is j b =
      let f : ℕ → ℤ = λ j. get_or q.asked.place j (pos 0) +ℤ total_flow (added_factors q) (counted_contracts q.asked) j in
      ap (λ (cells : List ℤ). get_or cells j (pos 0)) flows-left
      ∙ front_at (flows_summed q) q.asked.place q.asked.constraints (length-list_to q.asked.constraints f) j (pos 0) b
      ∙ get_d_list_to q.asked.constraints f j (pos 0) b

  -- whatever contracts of a whole the cells held the totals of, they hold them with those that the book's contracts of the period stand for
  more_totals : (whole : Factors) (b : Block) → b.size ≡ q.asked.constraints → (cs more : List Contract) → Totals whole b cs q.asked.place q.count
      → AllStandFor whole b (added_factors q) more (book_in q.asked.book) → Totals whole b (cs ++ of_period (period_of q.asked.period) more) flows count
  unfolding total_flow
  more_totals whole b same cs more totals stands =
      let t = period_of q.asked.period in
      let own = stands-period whole b (added_factors q) t more (book_in q.asked.book) stands in
      record {
        flows-are = λ j l.
            cell_is j (rw (← same) l)
            ∙ ap₂ ◌+ℤ◌ (totals.flows-are j l) (stands-total whole b (added_factors q) (of_period t more) (counted_contracts q.asked) own j l)
            ∙ sym (sum_over-append cs (of_period t more) (λ (c : Contract). flow whole c (b.number j)));
        count-is =
            figure-is (add_flows_checked q) told (summed q) q.count count left.count-added
            ∙ ap₂ ◌+◌ totals.count-is (stands-length whole b (added_factors q) (of_period t more) (counted_contracts q.asked) own)
            ∙ sym (length-append cs (of_period t more));
      }

-- ---- steps leave the totals of their contracts

module _ (whole : Factors) (b : Block) (t : Period) where
  step-totals : (cs : List Contract) (flows : List ℤ) (count : ℕ) → Totals whole b (of_period t cs) flows count → (s : Step whole b t flows count)
      → Totals whole b (of_period t (cs ++ s.contracts)) s.flows-left s.count_left
  step-totals cs flows count totals s =
      let q = s.call in
      let lent : Totals whole b (of_period t cs) q.asked.place q.count
      = record {
        flows-are = λ j h. ap (λ (cells : List ℤ). get_or cells j (pos 0)) s.flows-lent ∙ totals.flows-are j h;
        count-is = s.count-lent ∙ totals.count-is;
      } in
      subst (λ (l : List Contract). Totals whole b l s.flows-left s.count_left)
      (ap (λ (p : Period). of_period t cs ++ of_period p s.contracts) s.period-is ∙ sym (of_period-append t cs s.contracts))
      (more_totals q s.flows-left s.count_left (left_by q s.flows-left s.count_left s.added) s.none-refused whole b s.size_is (of_period t cs)
      s.contracts lent s.stands)

  pub totals-of : {cs : List Contract} {flows : List ℤ} {count : ℕ} → Summed whole b t cs flows count → Totals whole b (of_period t cs) flows count
  unfolding of_period total_flow sum_over_of
  totals-of (Summed.begun flows zero) = record { flows-are = zero; count-is = refl }
  totals-of (Summed.added cs flows count before s) = step-totals cs flows count (totals-of before) s
