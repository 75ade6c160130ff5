-- `check_judged`: each return by the tests that led there.
use mathlib.Core.Path.{◌≡◌, sym, ◌∙◌}
use mathlib.Core.List.{List, [], ◌∷◌}
use Prim.Native.Nat.{ℕ, ◌≤◌}
use lib.IntN.{ℤ}
use Rattle.tariff.specs.Units.{max_constraints}
use borrow.Author.Tests.{lt-ltb, le-ltb}
use lib.ListN.{length, take}
use Rattle.tariff.specs.Refusals.{first}
use Rattle.tariff.specs.Checks.{limit_range}
use Rattle.tariff.proofs.Checks.{first_passes, first-refuses, last-passes}
use Rattle.test_totals.specs.JudgeFlows.{judge_call, judge_checks, judge_checked}
use Rattle.test_totals.specs.Totals.{totals_range}
use Rattle.test_totals.proofs.Totalling.{cut_totals}
use Rattle.test_totals.proofs.check_judged.Goals as goal

pub returns-then-constraints-gt-MAX_CONSTRAINTS : goal.returns-then-constraints-gt-MAX_CONSTRAINTS
unfolding judge_checks
returns-then-constraints-gt-MAX_CONSTRAINTS c = sym (first-refuses _ _ (lt-ltb _ _ c.if-constraints-gt-MAX_CONSTRAINTS.true))

pub returns-then-process-gt2 : goal.returns-then-process-gt2
unfolding judge_checks
returns-then-process-gt2 c = sym (first_passes _ _ (le-ltb _ _ c.if-constraints-gt-MAX_CONSTRAINTS.false) ∙ first-refuses _ _ (lt-ltb _ _ c.if-process-gt2.true))

pub returns-then-limits-constraints : goal.returns-then-limits-constraints
unfolding judge_checks
returns-then-limits-constraints c =
    sym (first_passes _ _ (le-ltb _ _ c.if-constraints-gt-MAX_CONSTRAINTS.false) ∙ first_passes _ _ (le-ltb _ _ c.if-process-gt2.false)
    ∙ first-refuses _ _ (lt-ltb _ _ c.if-limits-constraints.true))

pub returns-then-flows-constraints : goal.returns-then-flows-constraints
unfolding judge_checks
returns-then-flows-constraints c =
    sym (first_passes _ _ (le-ltb _ _ c.if-constraints-gt-MAX_CONSTRAINTS.false) ∙ first_passes _ _ (le-ltb _ _ c.if-process-gt2.false)
    ∙ first_passes _ _ (le-ltb _ _ c.if-limits-constraints.false) ∙ first-refuses _ _ (lt-ltb _ _ c.if-flows-constraints.true))

-- past the counts and the lengths, the cells are left
cells_left : (k p : ℕ) (limits : List ℕ) (flows : List ℤ) (count : ℕ) → k ≤ max_constraints → p ≤ 2 → k ≤ length limits → k ≤ length flows
    → judge_checked (judge_call k p limits flows count) ≡ first (limit_range (take k limits) ∷ totals_range k count flows ∷ [])
unfolding judge_checks
cells_left k p limits flows count a b d e =
    first_passes _ _ (le-ltb _ _ a) ∙ first_passes _ _ (le-ltb _ _ b) ∙ first_passes _ _ (le-ltb _ _ d) ∙ first_passes _ _ (le-ltb _ _ e)

pub returns-then-cell_above : goal.returns-then-cell_above
returns-then-cell_above c =
    sym (cells_left c.args.constraints c.args.process c.args.limits.now c.args.flows.now c.args.count c.if-constraints-gt-MAX_CONSTRAINTS.false c.if-process-gt2.false c.if-limits-constraints.false c.if-flows-constraints.false
    ∙ first-refuses _ _ (sym c.cell_above.ensures ∙ c.if-cell_above.true))

pub returns-then-no_totals : goal.returns-then-no_totals
returns-then-no_totals c =
    sym (cells_left c.args.constraints c.args.process c.args.limits.now c.args.flows.now c.args.count c.if-constraints-gt-MAX_CONSTRAINTS.false c.if-process-gt2.false c.if-limits-constraints.false c.if-flows-constraints.false
    ∙ first_passes _ _ (sym c.cell_above.ensures ∙ c.if-cell_above.false) ∙ first-refuses _ _ (sym (c.no_totals.ensures ∙ cut_totals c.args.constraints c.args.count c.args.flows.now c.if-flows-constraints.false) ∙ c.if-no_totals.true))

pub returns : goal.returns
returns c =
    sym (cells_left c.args.constraints c.args.process c.args.limits.now c.args.flows.now c.args.count c.if-constraints-gt-MAX_CONSTRAINTS.false c.if-process-gt2.false c.if-limits-constraints.false c.if-flows-constraints.false
    ∙ first_passes _ _ (sym c.cell_above.ensures ∙ c.if-cell_above.false) ∙ last-passes _ (sym (c.no_totals.ensures ∙ cut_totals c.args.constraints c.args.count c.args.flows.now c.if-flows-constraints.false) ∙ c.if-no_totals.false))
