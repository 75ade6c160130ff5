-- `find_flows`: where no check refuses, the flows that are carried go into the cells.
use mathlib.Core.Path.{◌≡◌, sym, ap, ◌∙◌, subst}
use mathlib.Core.List.{List, [], ◌∷◌}
use Prim.Native.Nat.{ℕ}
use lib.IntN.{ℤ, pos}
use Rattle.lists.specs.Lent.{overwrite}
use Rattle.tariff.specs.declared.contracts.Period.{Period}
use Rattle.tariff.specs.ContractRules.{period_of, of_period}
use Rattle.tariff.specs.Units.{factors_of}
use Rattle.tariff.specs.Refusals.{given}
use Rattle.tariff.proofs.Answers.{answer-passed, cells-passed}
use Rattle.layouts.specs.BookFile.{book_in}
use Rattle.test_rules.specs.declared.Flows.{Flows}
use Rattle.test_rules.specs.Carried.{Carries}
use Rattle.test_rules.proofs.Flowing.{carried_judgeable}
use Rattle.test_flows.proofs.Rows.{carried-of}
use Rattle.test_loading.specs.FindFlows.{FlowsCall, asked_flows, find_flows_checked, counted_contracts, flow_cells}
use Rattle.test_loading.proofs.Passing.{ready, cells_are}
use Rattle.test_loading.proofs.find_flows.Goals as goal

-- the flows that are carried are those of the contracts counted
carried_is : (q : FlowsCall) (t : Period) (flows : Flows) → t ≡ period_of q.period → Carries (factors_of q.nodes q.constraints q.factors) (of_period t (book_in q.book)) flows
    → Carries (factors_of q.nodes q.constraints q.factors) (counted_contracts q) flows
carried_is q t flows e h = subst (λ (t : Period). Carries (factors_of q.nodes q.constraints q.factors) (of_period t (book_in q.book)) flows) e h

pub of-table-requires : goal.of-table-requires
of-table-requires c =
    let q = asked_flows c.args.asked c.args.limits.now c.args.factors.now c.args.book.now c.args.flows.now in
    (ready q (sym c.check_flows.ensures ∙ c.in_ok-check_flows.was)).as_tested.tables.good-factors

pub carry-carried-requires : goal.carry-carried-requires
carry-carried-requires c =
    let q = asked_flows c.args.asked c.args.limits.now c.args.factors.now c.args.book.now c.args.flows.now in
    rw c.of-table.ensures.nodes_kept (ready q (sym c.check_flows.ensures ∙ c.in_ok-check_flows.was)).as_tested.book

pub fill_flows-requires : goal.fill_flows-requires
fill_flows-requires c =
    let q = asked_flows c.args.asked c.args.limits.now c.args.factors.now c.args.book.now c.args.flows.now in
    let o = ready q (sym c.check_flows.ensures ∙ c.in_ok-check_flows.was) in
    let t = o.as_tested.tables in
    let kept = c.of-table.ensures in
    let carried = carried-of kept.nodes_kept kept.constraints_kept kept.cells_kept c.carry-carried.ensures in
    let j = carried_judgeable q.nodes q.constraints q.limits q.factors (period_of q.period) q.book t.good-limits t.good-factors
    o.as_tested.book _ (carried_is q _ _ c.from-period.ensures carried) in record { constraints_le_max_constraints = (j.few, o.room-enough); by_index = j.flows-sized }

pub returns : goal.returns
returns c =
    let q = asked_flows c.args.asked c.args.limits.now c.args.factors.now c.args.book.now c.args.flows.now in
    let e = c in
    let k = e.check_flows in
    let told = e.in_ok-check_flows.was in
    let kept = c.of-table.ensures in
    let h = carried_is q _ _ c.from-period.ensures (carried-of kept.nodes_kept kept.constraints_kept kept.cells_kept c.carry-carried.ensures) in
    let cells = c.fill_flows.ensures ∙ ap (λ (values : List ℤ). overwrite values q.place)
    (cells_are (factors_of q.nodes q.constraints q.factors) (counted_contracts q) _ h) in
    record {
      counted-given = ap (λ (n : ℕ). given (pos n ∷ [])) h.count-is ∙ answer-passed k.result (find_flows_checked q) k.ensures told _;
      flows-found = cells-passed k.result (find_flows_checked q) k.ensures told (flow_cells q) q.place _ cells;
    }
