-- `check_flows`: the test's checks, then the place.
use native.Mathlib.Omega.{arith}
use Rattle.std.proofs.lemmas.Result.{err_from_is_err_and}
use Rattle.test_loading.specs.FindFlows.{asked_flows}
use Rattle.test_loading.proofs.Passing.{test-refuses, no_room, all-fits}
use Rattle.test_loading.proofs.check_flows.Goals as goal

pub returns-in_err-check_test : goal.returns-in_err-check_test
returns-in_err-check_test c =
    let p = err_from_is_err_and c.from_residual.result c.from_residual.ensures.1 in
    rw (p.1, p.2)
    (test-refuses (asked_flows c.args.asked c.args.limits.now c.args.factors.now c.args.book.now c.args.place.now) c.check_test.result c.check_test.ensures _ c.in_err-check_test.was)

pub returns-then-place-asked : goal.returns-then-place-asked
returns-then-place-asked c =
    no_room (asked_flows c.args.asked c.args.limits.now c.args.factors.now c.args.book.now c.args.place.now) c.check_test.result c.check_test.ensures c.in_ok-check_test.was (omega arith)

pub returns : goal.returns
returns c =
    all-fits (asked_flows c.args.asked c.args.limits.now c.args.factors.now c.args.book.now c.args.place.now) c.check_test.result c.check_test.ensures c.in_ok-check_test.was (omega arith)
