-- What judging totals answers: what holds where no check refuses, and the promise.
use mathlib.Core.Path.{◌≡◌, refl, sym, ap, ◌∙◌}
use mathlib.Core.Bool.{false}
use Prim.Native.Nat.{◌≤◌}
use native.Mathlib.Omega.{arith}
use borrow.Author.Tests.{ltb-false}
use lib.ListN.{length}
use Rattle.tariff.specs.declared.refusals.Refusal.{Refusal}
use Rattle.std.specs.Prelude.{Err}
use Rattle.tariff.specs.Refusals.{passed}
use Rattle.tariff.specs.declared.processes.Process.{Process}
use Rattle.tariff.specs.Units.{max_constraints, max_limit}
use Rattle.tariff.specs.Processes.{process_of}
use Rattle.tariff.specs.Refusals.{given}
use Rattle.tariff.proofs.Answers.{answer-refused, answer-passed}
use Rattle.grid_tables.specs.Inner.{GoodCells}
use Rattle.grid_tables.proofs.Cells.{good-cells}
use Rattle.grid_tables.proofs.Passing.{passed_all}
use Rattle.test_rules.specs.declared.Flows.{Flows}
use Rattle.test_rules.specs.TestBook.{TestAnswer}
use Rattle.test_rules.specs.TestBook.{test_outcome}
use Rattle.test_rules.specs.Inner.{Judgeable}
use Rattle.test_totals.specs.Totals.{no_totals_of}
use Rattle.test_verdict.specs.Judged.{judged_values}
use Rattle.test_verdict.proofs.Judging.{values_same}
use Rattle.test_held.specs.Inner.{SameFlows}
use Rattle.test_totals.specs.JudgeFlows.{JudgeCall, judge_checks, judge_checked, JudgesFlows}
use Rattle.test_totals.proofs.Totalling.{flow-few, count-few}

module _ (q : JudgeCall) where
  -- what holds where no check refuses
  pub record Judgable : Type 0 where
    pub few : q.constraints ≤ max_constraints
    pub process-number : q.process ≤ 2
    pub good-limits : GoodCells max_limit q.constraints q.limits
    pub long : q.constraints ≤ length q.flows
    pub totals : no_totals_of q.constraints q.count q.flows ≡ false

  pub judgable : judge_checked q ≡ passed → Judgable
  unfolding judge_checks
  judgable e =
      let all = passed_all _ e in
      let short = all.1.1 in
      record {
        few = ltb-false max_constraints q.constraints all.0;
        process-number = ltb-false 2 q.process all.1.0;
        good-limits = good-cells max_limit q.constraints q.limits (ltb-false (length q.limits) q.constraints short.0) short.1.1.0;
        long = ltb-false (length q.flows) q.constraints short.1.0;
        totals = short.1.1.1.0;
      }

  -- the totals in an array can be judged
  pub held_judgeable : Judgable → (held : Flows) → SameFlows q.constraints q.flows held → Judgeable q.constraints q.limits held
  held_judgeable ok held same =
      record {
        few = ok.few;
        good-limits = ok.good-limits;
        flows-sized = λ j h.
            rw (same.flows-are j h)
            (omega (
              arith,
              flow-few q.constraints q.count q.flows ok.long ok.totals j h,
              count-few q.constraints q.count q.flows ok.long ok.totals,
            ));
      }

  pub judge_refused : (r : Refusal) → judge_checked q ≡ Err r → JudgesFlows q (Err r)
  judge_refused r e =
      record {
        figures = answer-refused (Err r) (judge_checked q) (sym e) r refl _;
      }

  pub judged : judge_checked q ≡ passed → (held : Flows) → SameFlows q.constraints q.flows held → (process : Process) → process ≡ process_of q.process
      → (answer : TestAnswer) → test_outcome answer ≡ given (judged_values q.limits process held.flows q.constraints) → JudgesFlows q answer
  judged told held same process is-process answer found =
      let by = process_of q.process in
      let right : test_outcome answer ≡ given (judged_values q.limits by q.flows q.constraints)
      = found
      ∙ ap (λ (p : Process). given (judged_values q.limits p held.flows q.constraints)) is-process
      ∙ ap given (values_same q.constraints q.limits by held.flows q.flows same.flows-are) in
      record {
        figures = right ∙ answer-passed passed (judge_checked q) (sym told) refl (judged_values q.limits by q.flows q.constraints);
      }
