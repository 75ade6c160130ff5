-- `test_book`: the flows carried are those of what is tested, and their loading is judged.
use mathlib.Core.Path.{◌≡◌, sym, ◌∙◌, subst}
use Rattle.std.specs.Prelude.{Ok, List}
use Rattle.tariff.specs.declared.contracts.Contract.{Contract}
use Rattle.tariff.specs.Units.{Grid}
use Rattle.tariff.specs.Refusals.{given}
use Rattle.tariff.specs.ContractRules.{of_period}
use Rattle.layouts.specs.BookFile.{book_in}
use Rattle.test_rules.specs.Inner.{Judges}
use Rattle.test_rules.specs.TestBook.{test_outcome, tested_grid}
use Rattle.test_rules.proofs.Checking.{tested, verdict_answers}
use Rattle.test_rules.proofs.Flowing.{carried_judgeable}
use Rattle.test_terms.specs.Calls.{asked_test}
use Rattle.test_verdict.specs.Judged.{judged_values}
use Rattle.test_verdict.proofs.Judging.{judges}
use Rattle.test_verdict.proofs.test_book.Goals as goal

pub of-tested-requires : goal.of-tested-requires
of-tested-requires c =
    let q = asked_test c.args.asked c.args.limits.now c.args.factors.now c.args.book.now in
    let o = tested q (sym c.check_test.ensures ∙ c.in_ok-check_test.was) in
    record { tables = (o.tables.good-limits, o.tables.good-factors); others = (o.tables.process-number, o.book) }

pub of-loading-requires : goal.of-loading-requires
of-loading-requires c =
    let t = c.of-tested.result in
    let g = t.grid in
    carried_judgeable g.factors.nodes g.factors.constraints g.limits.now g.factors.cells.now t.period t.book.now g.good g.factors.good t.accepted _
    c.carry-flows.ensures

pub returns : goal.returns
returns c =
    let q = asked_test c.args.asked c.args.limits.now c.args.factors.now c.args.book.now in
    let t = c.of-tested.result in
    let g = t.grid in
    let of = c.of-tested.ensures in
    let l = c.of-loading.ensures in
    let a = Ok c.verdict.result in
    let told : test_outcome a ≡ given (judged_values g.limits.now t.process c.carry-flows.result.flows g.factors.constraints)
    = c.verdict.ensures ∙ (λ i. given (judged_values (l.limits_kept i) t.process (l.flows_kept i).flows (l.constraints_kept i))) in
    let own = judges g.factors.nodes g.factors.constraints g.factors.good.few g.limits.now g.factors.cells.now t.process t.period (book_in t.book.now) _
    c.carry-flows.ensures a told in
    let asked = subst (λ (cs : List Contract). Judges (tested_grid q) t.process cs a) (λ i. of_period (of.period_kept i) (book_in (of.book_kept i)))
    (subst (λ (x : Grid). Judges x t.process (of_period t.period (book_in t.book.now)) a) of.grid_kept own) in
    verdict_answers q c.check_test.result c.check_test.ensures c.in_ok-check_test.was t.process of.process_kept a asked
