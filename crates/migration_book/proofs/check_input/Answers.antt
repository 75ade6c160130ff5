-- `check_input`: each return by the tests that led there.
use mathlib.Core.Path.{sym, ◌∙◌}
use borrow.Author.Tests.{lt-ltb, le-ltb}
use Rattle.std.proofs.lemmas.Result.{err_from_is_err_and}
use Rattle.tariff.proofs.Checks.{first_passes, first-refuses, append_refuses, append_passes}
use Rattle.book_rules.specs.BookChecks.{own_checks}
use Rattle.migration_book.specs.Inner.{input_checks}
use Rattle.migration_book.proofs.check_input.Goals as goal

pub returns-then-period-gt1 : goal.returns-then-period-gt1
unfolding input_checks
returns-then-period-gt1 c = sym (first-refuses _ _ (lt-ltb 1 _ c.if-period-gt1.true))

pub returns-in_err-check_own : goal.returns-in_err-check_own
unfolding input_checks
returns-in_err-check_own c =
    let k = c in
    let p = err_from_is_err_and c.from_residual.result c.from_residual.ensures.1 in
    rw (p.1, p.2) (sym (first_passes _ _ (le-ltb 1 _ k.if-period-gt1.false) ∙ append_refuses (own_checks _ _) _ _ (sym k.check_own.ensures ∙ c.in_err-check_own.was)))

pub returns : goal.returns
unfolding input_checks
returns c =
    let t = c in
    let k = t in
    c.check_figures.ensures
    ∙ sym (first_passes _ _ (le-ltb 1 _ k.if-period-gt1.false) ∙ append_passes (own_checks _ _) _ (sym k.check_own.ensures ∙ t.in_ok-check_own.was))
