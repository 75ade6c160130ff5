-- `crr_find_cuts`.
use mathlib.Core.Path.{refl, sym, ap, ◌∙◌, subst}
use Prim.Native.Nat.{ℕ}
use lib.ListN.{length}
use Rattle.tariff.specs.Refusals.{Checked, cell_after}
use Rattle.answer_laws.proofs.ForC.{one_number, one_cell}
use Rattle.test_rules.specs.TestBook.{test_call}
use Rattle.cut_rules.specs.FindCuts.{CutsCall, cuts_outcome, listed_rows, find_cuts_checked, HoldLeastCuts}
use Rattle.c_cuts.proofs.crr_find_cuts.Goals as goal

pub returns : goal.returns
returns c =
    let f = c.find_cuts-found.ensures in
    let q : CutsCall = record {
      test =
          test_call c.args.nodes c.args.constraints c.args.process c.args.period c.args.limits.now c.args.factors.now c.args.book.now;
      numbers = c.args.numbers.now;
      cuts = c.args.cuts.now;
    } in
    let m = length (listed_rows q) in
    let many = c.answer_cell.ensures.cell ∙ one_cell cuts_outcome (λ n. refl) (λ r. refl) (find_cuts_checked q) m _ c.args.listed.now f.listed-given in
    record {
      refusal-number = c.answer_cell.ensures.number ∙ one_number cuts_outcome (λ n. refl) (λ r. refl) (find_cuts_checked q) m _ f.listed-given;
      listed-given = many;
      numbers-listed = f.numbers-listed;
      cuts-listed = f.cuts-listed;
      least-cuts = λ told.
          let all = many ∙ ap (λ (x : Checked). cell_after x m c.args.listed.now) told in
          subst (λ (n : ℕ). HoldLeastCuts q n c.find_cuts-found.new.numbers c.find_cuts-found.new.cuts) (sym all) (f.least-cuts told);
    }
