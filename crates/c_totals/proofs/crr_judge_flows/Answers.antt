-- `crr_judge_flows`.
use mathlib.Core.Path.{◌≡◌, sym, ap, ◌∙◌}
use mathlib.Core.List.{[], ◌∷◌}
use lib.IntN.{pos}
use mir.Syntax.{w64}
use mir.Val.{to_z, of_z}
use Rattle.std.specs.Prelude.{Ok}
use Rattle.std.proofs.Common.{rules}
use Rattle.tariff.proofs.Answers.{refused_answers, refused_keeps, given-answers, given-values, given-cell}
use Rattle.tariff.specs.Processes.{process_of}
use Rattle.test_rules.specs.TestBook.{test_outcome, TestCells}
use Rattle.test_verdict.specs.Judged.{judged_values}
use Rattle.test_totals.specs.JudgeFlows.{judge_call, judge_checked, judged_figures}
use Rattle.c_totals.proofs.Cells.{pass_cells, fail_cells}
use Rattle.c_totals.proofs.crr_judge_flows.Goals as goal

pub returns-in-Err : goal.returns-in-Err
returns-in-Err c =
    let f = c.judge_flows in
    let a = c.args in
    let q = judge_call a.constraints a.process a.limits.now a.flows.now a.summed in
    let vs = judged_values q.limits (process_of q.process) q.flows q.constraints in
    let told = sym (ap test_outcome c.in-Err.is) ∙ f.ensures.figures in
    let r = c.in-Err.refusal in
    record {
      refusal-number = refused_answers (judge_checked q) vs r told c.number.ensures;
      set_given = refused_keeps (judge_checked q) vs r told (judged_figures q).set a.set.now;
      count-given = refused_keeps (judge_checked q) vs r told (judged_figures q).count a.count.now;
      lowest-given = refused_keeps (judge_checked q) vs r told (judged_figures q).lowest a.lowest.now;
      excess-given = refused_keeps (judge_checked q) vs r told (judged_figures q).over a.excess.now;
    }

pub returns-in-Ok-Pass : goal.returns-in-Ok-Pass
returns-in-Ok-Pass c =
    let is = c.in-Ok-Pass.is ∙ ap Ok c.in-Ok-Pass.field-0-is in
    let f = c.judge_flows in
    let a = c.args in
    let q = judge_call a.constraints a.process a.limits.now a.flows.now a.summed in
    let vs = judged_values q.limits (process_of q.process) q.flows q.constraints in
    let told = sym (ap test_outcome is) ∙ f.ensures.figures in
    let same = pass_cells q.constraints q.limits (process_of q.process) q.flows (given-values (judge_checked q) vs [] told) in
    record {
      refusal-number = given-answers (judge_checked q) vs [] told;
      set_given = given-cell (judge_checked q) vs [] told (judged_figures q).set a.set.now (ap (λ (t : TestCells). t.set) same);
      count-given = given-cell (judge_checked q) vs [] told (judged_figures q).count a.count.now (ap (λ (t : TestCells). t.count) same);
      lowest-given = given-cell (judge_checked q) vs [] told (judged_figures q).lowest a.lowest.now (ap (λ (t : TestCells). t.lowest) same);
      excess-given = given-cell (judge_checked q) vs [] told (judged_figures q).over a.excess.now (ap (λ (t : TestCells). t.over) same);
    }

pub returns-in-Ok-Fail : goal.returns-in-Ok-Fail
returns-in-Ok-Fail c =
    let is = c.in-Ok-Fail.is ∙ ap Ok c.in-Ok-Fail.field-0-is in
    let f = c.judge_flows in
    let a = c.args in
    let q = judge_call a.constraints a.process a.limits.now a.flows.now a.summed in
    let set = c.in-Ok-Fail.overloads in
    let count = c.in-Ok-Fail.many in
    let lowest = c.in-Ok-Fail.named in
    let over = c.in-Ok-Fail.over in
    let vs = judged_values q.limits (process_of q.process) q.flows q.constraints in
    let ws = pos set ∷ pos count ∷ pos lowest ∷ over.0 ∷ [] in
    let told = sym (ap test_outcome is) ∙ f.ensures.figures in
    let figures = given-values (judge_checked q) vs ws told in
    let same = fail_cells q.constraints q.limits (process_of q.process) q.flows set count lowest over.0 figures in
    let back : to_z w64 (of_z w64 over.0) ≡ over.0 = search rules in
    record {
      refusal-number = given-answers (judge_checked q) vs ws told;
      set_given = given-cell (judge_checked q) vs ws told (judged_figures q).set a.set.now (ap (λ (t : TestCells). t.set) same);
      count-given = given-cell (judge_checked q) vs ws told (judged_figures q).count a.count.now (ap (λ (t : TestCells). t.count) same);
      lowest-given = given-cell (judge_checked q) vs ws told (judged_figures q).lowest a.lowest.now (ap (λ (t : TestCells). t.lowest) same);
      excess-given = given-cell (judge_checked q) vs ws told (judged_figures q).over a.excess.now (back ∙ ap (λ (t : TestCells). t.over) same);
    }
