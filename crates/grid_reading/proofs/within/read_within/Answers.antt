-- `read_within`: the checks up to the file's length, that of the most bytes, and then the reader's.
use mathlib.Core.Path.{sym, ◌∙◌}
use borrow.Author.Tests.{lt-ltb}
use Rattle.std.proofs.lemmas.Result.{err_from_is_err_and}
use Rattle.tariff.specs.Refusals.{passed}
use Rattle.tariff.proofs.Checks.{first-refuses}
use Rattle.grid_rules.specs.ReadGrid.{read_grid_call}
use Rattle.grid_rules.proofs.Sizing.{within-checks, within-passes, reads_alike, reads_refused}
use Rattle.grid_reading.proofs.within.read_within.Goals as goal

pub returns-then-most-file : goal.returns-then-most-file
returns-then-most-file c =
    let q = read_grid_call c.args.file.now c.args.limits.now c.args.factors.now in
    reads_refused _ q _
    (within-checks c.args.most q passed (sym c.check_size.ensures ∙ c.in_ok-check_size.was) ∙ first-refuses _ _ (lt-ltb _ _ c.if-most-file.true))

pub returns-in_err-check_size : goal.returns-in_err-check_size
returns-in_err-check_size c =
    let p = err_from_is_err_and c.from_residual.result c.from_residual.ensures.1 in
    let q = read_grid_call c.args.file.now c.args.limits.now c.args.factors.now in
    rw (p.1, p.2) (reads_refused _ q _ (within-checks c.args.most q _ (sym c.check_size.ensures ∙ c.in_err-check_size.was)))

pub returns : goal.returns
returns c =
    let q = read_grid_call c.args.file.now c.args.limits.now c.args.factors.now in
    reads_alike _ _ q _ _ _ (within-passes c.args.most q (sym c.check_size.ensures ∙ c.in_ok-check_size.was) c.if-most-file.false) c.read_grid.ensures
