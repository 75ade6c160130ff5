-- Judging running totals of flows by a block's limits, as the test judges (document 01, "The rules"): the last step of a test of any size.
use Rattle.std.specs.Prelude.{◌≡◌, List, [], ◌∷◌, ℕ, length, take, ℤ}
use Rattle.lists.specs.Lent.{Lent, before, after}
use Rattle.tariff.specs.Refusals.{Checked}
use Rattle.tariff.specs.Processes.{process_of}
use Rattle.tariff.specs.Refusals.{Check, first, answered, cell_after, number_after}
use Rattle.tariff.specs.Checks.{constraint_count, process_number, short_table, limit_range}
use Rattle.test_rules.specs.TestBook.{TestAnswer}
use Rattle.test_rules.specs.TestBook.{test_outcome, TestCells}
use Rattle.test_verdict.specs.Judged.{judged_values, judged_cells}
use Rattle.test_totals.specs.Totals.{totals_range}

-- how many constraints, the process by number, the limits, the totals, and how many contracts they are of
pub record JudgeCall : Type 0 where
  pub constraints : ℕ
  pub process : ℕ
  pub limits : List ℕ
  pub flows : List ℤ
  pub count : ℕ

abbrev pub judge_call : ℕ → ℕ → List ℕ → List ℤ → ℕ → JudgeCall
judge_call k process limits flows count = record { constraints = k; process = process; limits = limits; flows = flows; count = count }

module _ (q : JudgeCall) where
  -- 3, 16, 9 for the limits and for the totals, 6; then 10 for cells that are no totals
  unfoldable pub judge_checks : List Check
  judge_checks =
      constraint_count q.constraints
      ∷ process_number q.process
      ∷ short_table (length q.limits) q.constraints
      ∷ short_table (length q.flows) q.constraints
      ∷ limit_range (take q.constraints q.limits)
      ∷ totals_range q.constraints q.count q.flows
      ∷ []

  abbrev pub judge_checked : Checked
  judge_checked = first judge_checks

-- the promise: the answer by the totals alone
pub record JudgesFlows (q : JudgeCall) (answer : TestAnswer) : Type 0 where
  pub figures : test_outcome answer ≡ answered (judge_checked q) (judged_values q.limits (process_of q.process) q.flows q.constraints)

-- ---- for C: the figures in lent cells, all 0 on a pass

abbrev pub judged_figures : JudgeCall → TestCells
judged_figures q = judged_cells q.limits (process_of q.process) q.flows q.constraints

pub record JudgesFlowsForC (q : JudgeCall) (number : ℕ) (set count lowest : Lent ℕ) (excess : Lent ℤ) : Type 0 where
  pub refusal-number : number ≡ number_after (judge_checked q)
  pub set_given : after set ≡ cell_after (judge_checked q) (judged_figures q).set (before set)
  pub count-given : after count ≡ cell_after (judge_checked q) (judged_figures q).count (before count)
  pub lowest-given : after lowest ≡ cell_after (judge_checked q) (judged_figures q).lowest (before lowest)
  pub excess-given : after excess ≡ cell_after (judge_checked q) (judged_figures q).over (before excess)
