-- `crr_add_flows`.
use mathlib.Core.Path.{refl, ◌∙◌}
use lib.ListN.{length}
use Rattle.answer_laws.proofs.ForC.{one_number, one_cell}
use Rattle.test_loading.specs.FindFlows.{flows_call, flows_outcome, counted_contracts}
use Rattle.test_totals.specs.AddFlows.{AddFlowsCall, add_flows_checked}
use Rattle.c_totals.proofs.crr_add_flows.Goals as goal

pub returns : goal.returns
returns c =
    let f = c.add_flows-found.ensures in
    let q : AddFlowsCall = record {
      asked =
          flows_call c.args.nodes c.args.constraints c.args.period c.args.limits.now c.args.factors.now c.args.book.now
          c.args.flows.now;
      count = c.args.count.now;
    } in
    let m = length (counted_contracts q.asked) in
    record {
      refusal-number = c.answer_cell.ensures.number ∙ one_number flows_outcome (λ n. refl) (λ r. refl) (add_flows_checked q) m _ f.counted-given;
      totals = f.totals;
      counted-given = c.answer_cell.ensures.cell ∙ one_cell flows_outcome (λ n. refl) (λ r. refl) (add_flows_checked q) m _ c.args.counted.now f.counted-given;
    }
