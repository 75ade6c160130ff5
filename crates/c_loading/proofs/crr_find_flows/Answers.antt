-- `crr_find_flows`.
use mathlib.Core.Path.{refl, ◌∙◌}
use lib.ListN.{length}
use Rattle.answer_laws.proofs.ForC.{one_number, one_cell}
use Rattle.test_loading.specs.FindFlows.{flows_call, find_flows_checked, flows_outcome, counted_contracts}
use Rattle.c_loading.proofs.crr_find_flows.Goals as goal

pub returns : goal.returns
returns c =
    let q = flows_call c.args.nodes c.args.constraints c.args.period c.args.limits.now c.args.factors.now c.args.book.now c.args.flows.now in
    let f = c.find_flows-found.ensures in
    let m = length (counted_contracts q) in
    record {
      refusal-number = c.answer_cell.ensures.number ∙ one_number flows_outcome (λ n. refl) (λ r. refl) (find_flows_checked q) m _ f.counted-given;
      flows-found = f.flows-found;
      counted-given = c.answer_cell.ensures.cell ∙ one_cell flows_outcome (λ n. refl) (λ r. refl) (find_flows_checked q) m _ c.args.counted.now f.counted-given;
    }
