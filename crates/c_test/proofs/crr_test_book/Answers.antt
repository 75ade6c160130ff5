-- `crr_test_book`.
use mathlib.Core.Path.{◌≡◌, sym, ap, ◌∙◌}
use mathlib.Core.List.{[], ◌∷◌}
use lib.IntN.{pos}
use mir.Syntax.{w64}
use mir.Val.{to_z, of_z}
use Rattle.std.specs.Prelude.{Ok}
use Rattle.std.proofs.Common.{rules}
use Rattle.tariff.proofs.Answers.{refused_answers, refused_keeps, some_refuses, given-answers, given-values, given-cell}
use Rattle.test_rules.specs.TestBook.{test_call, test_checked, test_outcome, test_values, tested_grid, tested_process, tested_contracts, TestCells, tested_cells}
use Rattle.c_test.proofs.Testing.{pass_cells, fail_cells, fail_set, pass_demand3, fail_demand3}
use Rattle.c_test.proofs.crr_test_book.Goals as goal

pub returns-in-Err : goal.returns-in-Err
returns-in-Err c =
    let f = c.test_book in
    let a = c.args in
    let q = test_call a.nodes a.constraints a.process a.period a.limits.now a.factors.now a.book.now in
    let vs = test_values (tested_grid q) (tested_process q) (tested_contracts q) in
    let told = sym (ap test_outcome c.in-Err.is) ∙ f.ensures.figures in
    let r = c.in-Err.refusal in
    record {
      refusal-number = refused_answers (test_checked q) vs r told c.number.ensures;
      set_given = refused_keeps (test_checked q) vs r told (tested_cells q).set a.set.now;
      count-given = refused_keeps (test_checked q) vs r told (tested_cells q).count a.count.now;
      lowest-given = refused_keeps (test_checked q) vs r told (tested_cells q).lowest a.lowest.now;
      excess-given = refused_keeps (test_checked q) vs r told (tested_cells q).over a.excess.now;
      demand3 = λ h. absurd (some_refuses (test_checked q) vs r told h);
    }

pub returns-in-Ok-Pass : goal.returns-in-Ok-Pass
returns-in-Ok-Pass c =
    let is = c.in-Ok-Pass.is ∙ ap Ok c.in-Ok-Pass.field-0-is in
    let f = c.test_book in
    let a = c.args in
    let q = test_call a.nodes a.constraints a.process a.period a.limits.now a.factors.now a.book.now in
    let vs = test_values (tested_grid q) (tested_process q) (tested_contracts q) in
    let told = sym (ap test_outcome is) ∙ f.ensures.figures in
    let same = pass_cells (tested_grid q) (tested_process q) (tested_contracts q) (given-values (test_checked q) vs [] told) in
    record {
      refusal-number = given-answers (test_checked q) vs [] told;
      set_given = given-cell (test_checked q) vs [] told (tested_cells q).set a.set.now (ap (λ (t : TestCells). t.set) same);
      count-given = given-cell (test_checked q) vs [] told (tested_cells q).count a.count.now (ap (λ (t : TestCells). t.count) same);
      lowest-given = given-cell (test_checked q) vs [] told (tested_cells q).lowest a.lowest.now (ap (λ (t : TestCells). t.lowest) same);
      excess-given = given-cell (test_checked q) vs [] told (tested_cells q).over a.excess.now (ap (λ (t : TestCells). t.over) same);
      demand3 = λ h. pass_demand3 (tested_grid q) (tested_process q) (tested_contracts q) f.result is (f.ensures.demand3 h);
    }

pub returns-in-Ok-Fail : goal.returns-in-Ok-Fail
returns-in-Ok-Fail c =
    let is = c.in-Ok-Fail.is ∙ ap Ok c.in-Ok-Fail.field-0-is in
    let f = c.test_book in
    let a = c.args in
    let q = test_call a.nodes a.constraints a.process a.period a.limits.now a.factors.now a.book.now in
    let set = c.in-Ok-Fail.overloads in
    let count = c.in-Ok-Fail.many in
    let lowest = c.in-Ok-Fail.named in
    let over = c.in-Ok-Fail.over in
    let vs = test_values (tested_grid q) (tested_process q) (tested_contracts q) in
    let ws = pos set ∷ pos count ∷ pos lowest ∷ over.0 ∷ [] in
    let told = sym (ap test_outcome is) ∙ f.ensures.figures in
    let figures = given-values (test_checked q) vs ws told in
    let same = fail_cells (tested_grid q) (tested_process q) (tested_contracts q) set count lowest over.0 figures in
    let back : to_z w64 (of_z w64 over.0) ≡ over.0 = search rules in
    record {
      refusal-number = given-answers (test_checked q) vs ws told;
      set_given = given-cell (test_checked q) vs ws told (tested_cells q).set a.set.now (ap (λ (t : TestCells). t.set) same);
      count-given = given-cell (test_checked q) vs ws told (tested_cells q).count a.count.now (ap (λ (t : TestCells). t.count) same);
      lowest-given = given-cell (test_checked q) vs ws told (tested_cells q).lowest a.lowest.now (ap (λ (t : TestCells). t.lowest) same);
      excess-given = given-cell (test_checked q) vs ws told (tested_cells q).over a.excess.now (back ∙ ap (λ (t : TestCells). t.over) same);
      demand3 = λ h.
          rw back
          (fail_demand3 (tested_grid q) (tested_process q) (tested_contracts q) f.result set count lowest over is
          (fail_set (tested_grid q) (tested_process q) (tested_contracts q) set count lowest over.0 figures) (f.ensures.demand3 h));
    }
