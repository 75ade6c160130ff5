-- `check_rows`.
use Rattle.std.proofs.lemmas.Result.{err_from_is_err_and}
use mathlib.Core.Path.{sym, ◌∙◌}
use native.Mathlib.Omega.{arith}
use Rattle.book_rules.specs.WriteBook.{row_checks}
use Rattle.book_rules.proofs.Checking.{checks_start, checks_more, checks_stop, checks_end}
use Rattle.book_writing.proofs.check_rows.Goals as goal

pub loop-i-init : goal.loop-i-init
loop-i-init c = checks_start (row_checks c.args.below c.args.cells.now)

pub returns-in_err-check_row : goal.returns-in_err-check_row
returns-in_err-check_row c =
    let l = c.loop-i in
    let a = c.args in
    let p = err_from_is_err_and c.from_residual.result c.from_residual.ensures.1 in
    rw (p.1, p.2) (sym (checks_stop (row_checks a.below a.cells.now) a.contracts l.i _ (omega arith) l.invariant (sym c.check_row.ensures ∙ c.in_err-check_row.was)))

pub loop-i-preserved : goal.loop-i-preserved
loop-i-preserved c =
    let l = c.loop-i in
    let a = c.args in
    checks_more (row_checks a.below a.cells.now) l.i l.invariant (sym c.check_row.ensures ∙ c.in_ok-check_row.was)

pub returns : goal.returns
returns c = checks_end _ _ _ (omega arith) c.loop-i.invariant
