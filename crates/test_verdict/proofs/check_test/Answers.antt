-- `check_test`: the tables' checks, then the book's own.
use mathlib.Core.Path.{◌∙◌}
use Rattle.std.proofs.lemmas.Result.{err_from_is_err_and}
use Rattle.test_rules.proofs.Checking.{table-refuses, then_book}
use Rattle.test_terms.specs.Calls.{asked_test}
use Rattle.test_verdict.proofs.check_test.Goals as goal

pub returns-in_err-check_tables : goal.returns-in_err-check_tables
returns-in_err-check_tables c =
    let q = asked_test c.args.asked c.args.limits.now c.args.factors.now c.args.book.now in
    let p = err_from_is_err_and c.from_residual.result c.from_residual.ensures.1 in
    rw (p.1, p.2) (table-refuses q c.check_tables.result c.check_tables.ensures _ c.in_err-check_tables.was)

pub returns : goal.returns
returns c =
    let q = asked_test c.args.asked c.args.limits.now c.args.factors.now c.args.book.now in
    c.check_book.ensures
    ∙ then_book q c.check_tables.result c.check_tables.ensures c.in_ok-check_tables.was
