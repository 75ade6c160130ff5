-- `check_read`: the checks up to the file's length, and then the figures'.
use mathlib.Core.Path.{sym, ◌∙◌}
use Rattle.std.proofs.lemmas.Result.{err_from_is_err_and}
use Rattle.tariff.specs.Refusals.{passed}
use Rattle.grid_rules.specs.ReadGrid.{read_grid_call}
use Rattle.grid_rules.proofs.Sizing.{read_checks}
use Rattle.grid_reading.proofs.reading.check_read.Goals as goal

pub of-requires : goal.of-requires
of-requires c = sym c.check_size.ensures ∙ c.in_ok-check_size.was

pub returns-in_err-check_size : goal.returns-in_err-check_size
returns-in_err-check_size c =
    let p = err_from_is_err_and c.from_residual.result c.from_residual.ensures.1 in
    rw (p.1, p.2) (sym (read_checks (read_grid_call c.args.file.now c.args.limits.now c.args.factors.now) _ (sym c.check_size.ensures ∙ c.in_err-check_size.was)))

pub returns : goal.returns
returns c =
    rw c.of.ensures.bytes_kept at c.check_figures.ensures ∙ sym (read_checks (read_grid_call c.args.file.now c.args.limits.now c.args.factors.now) passed (sym c.check_size.ensures
    ∙ c.in_ok-check_size.was))
