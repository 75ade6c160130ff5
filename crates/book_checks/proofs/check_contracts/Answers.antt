-- `check_contracts`.
use mathlib.Core.Path.{sym, ◌∙◌}
use native.Mathlib.Omega.{arith}
use Rattle.std.proofs.lemmas.Result.{err_from_is_err_and}
use Rattle.layouts.specs.BookFile.{contract_in}
use Rattle.book_rules.specs.BookChecks.{contract_checks}
use Rattle.book_rules.proofs.Checking.{checks_start, checks_more, checks_stop, checks_end}
use Rattle.book_checks.proofs.check_contracts.Goals as goal

pub loop-i-init : goal.loop-i-init
loop-i-init c = let a = c.args in checks_start (λ i. contract_checks a.nodes (contract_in a.contracts.form a.contracts.file.now i))

pub returns-in_err-check_at : goal.returns-in_err-check_at
returns-in_err-check_at c =
    let l = c.loop-i in
    let a = c.args in
    let p = err_from_is_err_and c.from_residual.result c.from_residual.ensures.1 in
    rw (p.1, p.2)
    (sym (checks_stop (λ i. contract_checks a.nodes (contract_in a.contracts.form a.contracts.file.now i)) a.contracts.count l.i _ (omega arith) l.invariant
    (sym c.check_at.ensures ∙ c.in_err-check_at.was)))

pub loop-i-preserved : goal.loop-i-preserved
loop-i-preserved c =
    let l = c.loop-i in
    let a = c.args in
    checks_more (λ i. contract_checks a.nodes (contract_in a.contracts.form a.contracts.file.now i)) l.i l.invariant (sym c.check_at.ensures ∙ c.in_ok-check_at.was)

pub returns : goal.returns
returns c = checks_end _ _ _ (omega arith) c.loop-i.invariant
