-- What adding the flows answers: refusals, and cells that have the flows of a book's contracts.
use mathlib.Core.Path.{◌≡◌, refl, sym, ap, ◌∙◌}
use mathlib.Core.Bool.{true, false}
use mathlib.Core.List.{List, [], ◌∷◌}
use Prim.Native.Nat.{ℕ, ◌+◌, ◌≤◌, ◌<◌}
use native.Mathlib.Omega.{arith}
use borrow.Author.Tests.{lt-ltb, le-ltb}
use lib.ListN.{length, get_or}
use lib.IntN.{ℤ, pos, ◌+ℤ◌}
use Rattle.lists.specs.Lent.{overwrite}
use Rattle.lists.proofs.Lists.{list_to-cong}
use Rattle.tariff.specs.declared.refusals.Refusal.{Refusal}
use Rattle.tariff.specs.declared.refusals.Refusal.TheVariants.{ContractCount}
use Rattle.tariff.specs.Refusals.{Checked, passed}
use Rattle.std.specs.Prelude.{Ok, Err}
use Rattle.tariff.specs.ContractRules.{period_of}
use Rattle.tariff.specs.Refusals.{Check, first, given}
use Rattle.tariff.proofs.Checks.{first_passes, first-refuses, last-passes, append_refuses, append_passes}
use Rattle.tariff.proofs.Answers.{answer-refused, cells-refused, answer-passed, cells-passed}
use Rattle.test_rules.specs.declared.Flows.{Flows}
use Rattle.test_rules.specs.Carried.{Carries}
use Rattle.test_rules.proofs.Flowing.{carried_judgeable}
use Rattle.test_loading.specs.FindFlows.{find_flows_checks, find_flows_checked, counted_contracts}
use Rattle.test_loading.proofs.Passing.{Ready}
use Rattle.test_totals.specs.Totals.{max_summed, no_totals_of, totals_range, summed_count}
use Rattle.test_totals.specs.AddFlows.{AddFlowsCall, add_flows_checks, add_flows_checked, added_factors, summed, flows_summed, AddsFlows}
use Rattle.test_totals.specs.Inner.{Addable, with_flows}
use Rattle.test_totals.proofs.Totalling.{flow-few, count-few}

module _ (q : AddFlowsCall) where
  abbrev ten : List Check
  ten = totals_range q.asked.constraints q.count q.asked.place ∷ summed_count (summed q) ∷ []

  -- x is what the checks of finding the flows found
  module _ (x : Checked) (found : x ≡ find_flows_checked q.asked) where
    pub early : (r : Refusal) → x ≡ Err r → add_flows_checked q ≡ Err r
    unfolding add_flows_checks
    early r told = append_refuses (find_flows_checks q.asked) ten r (sym found ∙ told)

    module _ (told : x ≡ passed) where
      then_ten : add_flows_checked q ≡ first ten
      unfolding add_flows_checks
      then_ten = append_passes (find_flows_checks q.asked) ten (sym found ∙ told)

      pub not_totals : no_totals_of q.asked.constraints q.count q.asked.place ≡ true → add_flows_checked q ≡ Err ContractCount
      not_totals e = then_ten ∙ first-refuses (totals_range q.asked.constraints q.count q.asked.place) (summed_count (summed q) ∷ []) e

      module _ (totals : no_totals_of q.asked.constraints q.count q.asked.place ≡ false) where
        then_count : add_flows_checked q ≡ first (summed_count (summed q) ∷ [])
        then_count = then_ten ∙ first_passes (totals_range q.asked.constraints q.count q.asked.place) (summed_count (summed q) ∷ []) totals

        pub too_many_in_all : max_summed < summed q → add_flows_checked q ≡ Err ContractCount
        too_many_in_all h = then_count ∙ first-refuses (summed_count (summed q)) [] (lt-ltb max_summed (summed q) h)

        pub all_pass : summed q ≤ max_summed → add_flows_checked q ≡ passed
        all_pass h = then_count ∙ last-passes (summed_count (summed q)) (le-ltb max_summed (summed q) h)

  -- a refusal changes nothing
  pub add_refused : (r : Refusal) → add_flows_checked q ≡ Err r → AddsFlows q (Err r) q.asked.place q.count
  add_refused r e =
      record {
        counted-given = answer-refused (Err r) (add_flows_checked q) (sym e) r refl (pos (length (counted_contracts q.asked)) ∷ []);
        totals = record { flows-added = cells-refused (Err r) (add_flows_checked q) (sym e) r refl (flows_summed q) q.asked.place; count-added = rw e };
      }

  -- the book's flows can be added to totals
  module _ (ok : Ready q.asked) (carried : Flows) (h : Carries (added_factors q) (counted_contracts q.asked) carried) where
    pub addable : no_totals_of q.asked.constraints q.count q.asked.place ≡ false → Addable q.asked.constraints carried q.asked.place
    addable totals =
        let a = q.asked in
        let t = ok.as_tested.tables in
        let small
        = carried_judgeable a.nodes a.constraints a.limits a.factors (period_of a.period) a.book t.good-limits t.good-factors
        ok.as_tested.book carried h in
        record {
          few = t.good-factors.few;
          long = ok.room-enough;
          sums_small = λ j b.
              omega (
                arith,
                flow-few a.constraints q.count a.place ok.room-enough totals j b,
                count-few a.constraints q.count a.place ok.room-enough totals,
                small.flows-sized j b,
              );
        }

    sums_are : with_flows q.asked.constraints carried q.asked.place ≡ flows_summed q
    sums_are = list_to-cong q.asked.constraints _ _ (λ j b. ap (λ (z : ℤ). get_or q.asked.place j (pos 0) +ℤ z) (h.flows-are j b))

    module _ (exit : List ℤ) (stored : exit ≡ overwrite (with_flows q.asked.constraints carried q.asked.place) q.asked.place) where
      exit_is : exit ≡ overwrite (flows_summed q) q.asked.place
      exit_is = stored ∙ ap (λ (cells : List ℤ). overwrite cells q.asked.place) sums_are

      pub flows-are_added : (counted count : ℕ) → counted ≡ carried.count → count ≡ q.count + counted → add_flows_checked q ≡ passed
          → AddsFlows q (Ok counted) exit count
      flows-are_added counted count e f told =
          let n : counted ≡ length (counted_contracts q.asked) = e ∙ h.count-is in
          let m : count ≡ summed q = f ∙ ap (λ (x : ℕ). q.count + x) n in
          record {
            counted-given = ap (λ (x : ℕ). given (pos x ∷ [])) n ∙ answer-passed passed (add_flows_checked q) (sym told) refl _;
            totals = record {
              flows-added = cells-passed passed (add_flows_checked q) (sym told) refl (flows_summed q) q.asked.place exit exit_is;
              count-added = m ∙ sym (rw told refl);
            };
          }
