-- `check_market_view`: each return by the tests that led there.
use Rattle.std.proofs.lemmas.Result.{err_from_is_err_and}
use mathlib.Core.Path.{sym, ◌∙◌}
use native.Mathlib.Omega.{arith}
use Rattle.view_market.proofs.Checking.{book-refuses, no_room, room}
use Rattle.view_market.proofs.check_market_view.Goals as goal

pub returns-in_err-check_own : goal.returns-in_err-check_own
returns-in_err-check_own c place e = let p = err_from_is_err_and c.from_residual.result c.from_residual.ensures.1 in
    rw (p.1, p.2) (sym (book-refuses _ _ (sym c.check_own.ensures ∙ c.in_err-check_own.was)))

pub returns-then-bytes-book : goal.returns-then-bytes-book
returns-then-bytes-book c place e = let t = c in sym (no_room _ (sym t.check_own.ensures ∙ t.in_ok-check_own.was) (omega arith))

pub returns : goal.returns
returns c place e = let t = c in sym (room _ (sym t.check_own.ensures ∙ t.in_ok-check_own.was) (omega arith))
