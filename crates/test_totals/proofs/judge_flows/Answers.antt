-- `judge_flows`: where no check refuses, the totals are judged.
use mathlib.Core.Path.{sym, ◌∙◌}
use Rattle.std.specs.Prelude.{Ok}
use Rattle.tariff.specs.Refusals.{given}
use Rattle.test_verdict.specs.Judged.{judged_values}
use Rattle.test_totals.specs.JudgeFlows.{judge_call}
use Rattle.test_totals.proofs.Judged.{judgable, held_judgeable, judged}
use Rattle.test_totals.proofs.judge_flows.Goals as goal

pub held_flows-held-requires : goal.held_flows-held-requires
held_flows-held-requires c =
    let q = judge_call c.args.constraints c.args.process c.args.limits.now c.args.flows.now c.args.count in
    let ok = judgable q (sym c.check_judged.ensures ∙ c.in_ok-check_judged.was) in
    (ok.few, ok.long)

pub of-loading-requires : goal.of-loading-requires
of-loading-requires c =
    let q = judge_call c.args.constraints c.args.process c.args.limits.now c.args.flows.now c.args.count in
    let ok = judgable q (sym c.check_judged.ensures ∙ c.in_ok-check_judged.was) in
    held_judgeable q ok _ c.held_flows-held.ensures

pub returns : goal.returns
returns c =
    let q = judge_call c.args.constraints c.args.process c.args.limits.now c.args.flows.now c.args.count in
    let l = c.of-loading.ensures in
    let told = c.verdict.ensures ∙ (λ i. given (judged_values (l.limits_kept i) c.from.result (l.flows_kept i).flows (l.constraints_kept i))) in
    judged q (sym c.check_judged.ensures ∙ c.in_ok-check_judged.was) _ c.held_flows-held.ensures _ c.from.ensures (Ok c.verdict.result) told
