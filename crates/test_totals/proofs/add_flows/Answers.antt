-- `add_flows`: where no check refuses, the flows that are carried are added to the cells.
use mathlib.Core.Path.{◌≡◌, refl, sym, ◌∙◌, subst}
use mathlib.Core.Bool.{Bool}
use mathlib.Core.List.{List}
use lib.IntN.{ℤ}
use Rattle.test_rules.specs.declared.Flows.{Flows}
use Rattle.test_terms.specs.declared.AskedFlows.{AskedFlows}
use Prim.Native.Nat.{ℕ, ◌+◌, ◌≤◌, ◌<◌}
use native.Mathlib.Omega.{arith}
use lib.ListN.{length, take}
use lib.Seq.{length-take-le}
use Rattle.std.proofs.lemmas.Result.{err_from_is_err_and}
use Rattle.tariff.specs.declared.contracts.Period.{Period}
use Rattle.tariff.specs.ContractRules.{period_of, of_period}
use Rattle.layouts.specs.BookFile.{book_in}
use Rattle.test_rules.specs.Carried.{Carries}
use Rattle.test_loading.specs.FindFlows.{asked_flows, counted_contracts}
use Rattle.test_loading.proofs.Passing.{Ready, ready}
use Rattle.test_flows.proofs.Rows.{carried-of}
use Rattle.test_totals.specs.Totals.{max_summed, no_totals_of}
use Rattle.test_totals.specs.AddFlows.{AddFlowsCall, added_factors}
use Rattle.test_totals.proofs.Totalling.{count-few, cut_totals}
use Rattle.test_totals.proofs.Adding.{early, not_totals, too_many_in_all, all_pass, add_refused, addable, flows-are_added}
use Rattle.test_totals.proofs.add_flows.Goals as goal

abbrev call_of : AskedFlows → List ℕ → List ℤ → List ℕ → List ℤ → ℕ → AddFlowsCall
call_of asked limits factors book flows count = record { asked = asked_flows asked limits factors book flows; count = count }

-- the flows that are carried are those of the contracts counted
carried_is : (q : AddFlowsCall) (t : Period) (flows : Flows) → t ≡ period_of q.asked.period → Carries (added_factors q) (of_period t (book_in q.asked.book)) flows
    → Carries (added_factors q) (counted_contracts q.asked) flows
carried_is q t flows e h = subst (λ (t : Period). Carries (added_factors q) (of_period t (book_in q.asked.book)) flows) e h

-- the totals looked at are the call's
of_all : (q : AddFlowsCall) → Ready q.asked → {b : Bool} → b ≡ no_totals_of (length (take q.asked.constraints q.asked.place)) q.count (take q.asked.constraints q.asked.place)
    → no_totals_of q.asked.constraints q.count q.asked.place ≡ b
of_all q ok e = sym (e ∙ cut_totals q.asked.constraints q.count q.asked.place ok.room-enough)

pub returns-in_err-check_flows : goal.returns-in_err-check_flows
returns-in_err-check_flows c =
    let q = call_of c.args.asked c.args.limits.now c.args.factors.now c.args.book.now c.args.flows.now c.args.count.now in
    let p = err_from_is_err_and c.from_residual.result c.from_residual.ensures.1 in
    rw (p.1, p.2) (add_refused q _ (early q c.check_flows.result c.check_flows.ensures _ c.in_err-check_flows.was))

pub slice_bounds-no_totals-end : goal.slice_bounds-no_totals-end
slice_bounds-no_totals-end c =
    let q = call_of c.args.asked c.args.limits.now c.args.factors.now c.args.book.now c.args.flows.now c.args.count.now in
    omega (arith, (ready q.asked (sym c.check_flows.ensures ∙ c.in_ok-check_flows.was)).room-enough)

pub slice_bounds-no_totals-end-2 : goal.slice_bounds-no_totals-end-2
slice_bounds-no_totals-end-2 c =
    let q = call_of c.args.asked c.args.limits.now c.args.factors.now c.args.book.now c.args.flows.now c.args.count.now in
    omega (arith, length-take-le q.asked.constraints q.asked.place (ready q.asked (sym c.check_flows.ensures ∙ c.in_ok-check_flows.was)).room-enough)

pub returns-then-no_totals : goal.returns-then-no_totals
returns-then-no_totals c =
    let q = call_of c.args.asked c.args.limits.now c.args.factors.now c.args.book.now c.args.flows.now c.args.count.now in
    let ok = ready q.asked (sym c.check_flows.ensures ∙ c.in_ok-check_flows.was) in
    let k = c.check_flows in
    add_refused q _ (not_totals q k.result k.ensures c.in_ok-check_flows.was (of_all q ok c.no_totals.ensures ∙ c.if-no_totals.true))

pub of-table-requires : goal.of-table-requires
of-table-requires c =
    let q = call_of c.args.asked c.args.limits.now c.args.factors.now c.args.book.now c.args.flows.now c.args.count.now in
    (ready q.asked (sym c.check_flows.ensures ∙ c.in_ok-check_flows.was)).as_tested.tables.good-factors

pub carry-carried-requires : goal.carry-carried-requires
carry-carried-requires c =
    let q = call_of c.args.asked c.args.limits.now c.args.factors.now c.args.book.now c.args.flows.now c.args.count.now in
    rw c.of-table.ensures.nodes_kept (ready q.asked (sym c.check_flows.ensures ∙ c.in_ok-check_flows.was)).as_tested.book

pub overflow_sub-count : goal.overflow_sub-count
overflow_sub-count c =
    let q = call_of c.args.asked c.args.limits.now c.args.factors.now c.args.book.now c.args.flows.now c.args.count.now in
    let ok = ready q.asked (sym c.check_flows.ensures ∙ c.in_ok-check_flows.was) in
    let totals = of_all q ok c.no_totals.ensures ∙ c.if-no_totals.false in
    let few = count-few q.asked.constraints q.count q.asked.place ok.room-enough totals in
    omega (arith, few)

pub returns-then-count-carried : goal.returns-then-count-carried
returns-then-count-carried c =
    let q = call_of c.args.asked c.args.limits.now c.args.factors.now c.args.book.now c.args.flows.now c.args.count.now in
    let ok = ready q.asked (sym c.check_flows.ensures ∙ c.in_ok-check_flows.was) in
    let totals = of_all q ok c.no_totals.ensures ∙ c.if-no_totals.false in
    let few = count-few q.asked.constraints q.count q.asked.place ok.room-enough totals in
    let kept = c.of-table.ensures in
    let carried = carried_is q _ _ c.from-period.ensures (carried-of kept.nodes_kept kept.constraints_kept kept.cells_kept c.carry-carried.ensures) in
    let k = c.check_flows in
    let more : max_summed < q.count + length (counted_contracts q.asked) = omega (arith, carried.count-is, c.if-count-carried.true, few) in
    add_refused q _ (too_many_in_all q k.result k.ensures c.in_ok-check_flows.was totals more)

pub add_cells-requires : goal.add_cells-requires
add_cells-requires c =
    let q = call_of c.args.asked c.args.limits.now c.args.factors.now c.args.book.now c.args.flows.now c.args.count.now in
    let ok = ready q.asked (sym c.check_flows.ensures ∙ c.in_ok-check_flows.was) in
    let totals = of_all q ok c.no_totals.ensures ∙ c.if-no_totals.false in
    let kept = c.of-table.ensures in
    let carried = carried_is q _ _ c.from-period.ensures (carried-of kept.nodes_kept kept.constraints_kept kept.cells_kept c.carry-carried.ensures) in
    addable q ok c.carry-carried.result carried totals

pub returns : goal.returns
returns c =
    let q = call_of c.args.asked c.args.limits.now c.args.factors.now c.args.book.now c.args.flows.now c.args.count.now in
    let ok = ready q.asked (sym c.check_flows.ensures ∙ c.in_ok-check_flows.was) in
    let totals = of_all q ok c.no_totals.ensures ∙ c.if-no_totals.false in
    let few = count-few q.asked.constraints q.count q.asked.place ok.room-enough totals in
    let kept = c.of-table.ensures in
    let carried = carried_is q _ _ c.from-period.ensures (carried-of kept.nodes_kept kept.constraints_kept kept.cells_kept c.carry-carried.ensures) in
    let f = c.check_flows in
    let all : q.count + length (counted_contracts q.asked) ≤ max_summed = omega (arith, carried.count-is, c.if-count-carried.false, few) in
    flows-are_added q ok c.carry-carried.result carried _ c.add_cells.ensures _ _ refl refl
    (all_pass q f.result f.ensures c.in_ok-check_flows.was totals all)
