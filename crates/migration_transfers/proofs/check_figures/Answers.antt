-- `check_figures`: the rows' checks, then the loads.
use mathlib.Core.Path.{sym, ◌∙◌}
use Rattle.std.proofs.lemmas.Result.{err_from_is_err_and}
use Rattle.tariff.proofs.Checks.{first-refuses, last-passes, append_refuses, append_passes}
use Rattle.migration_rules.specs.Transfers.{migration_row_checks, range_checks}
use Rattle.migration_transfers.proofs.check_figures.Goals as goal

pub returns-in_err-check_rows : goal.returns-in_err-check_rows
unfolding range_checks
returns-in_err-check_rows c =
    let p = err_from_is_err_and c.from_residual.result c.from_residual.ensures.1 in
    rw (p.1, p.2) (sym (append_refuses (migration_row_checks _ _) _ _ (sym c.check_rows.ensures ∙ c.in_err-check_rows.was)))

pub returns-then-cell_above : goal.returns-then-cell_above
unfolding range_checks
returns-then-cell_above c =
    sym (append_passes (migration_row_checks _ _) _ (sym c.check_rows.ensures ∙ c.in_ok-check_rows.was) ∙ first-refuses _ _ (sym c.cell_above.ensures ∙ c.if-cell_above.true))

pub returns : goal.returns
unfolding range_checks
returns c =
    sym (append_passes (migration_row_checks _ _) _ (sym c.check_rows.ensures ∙ c.in_ok-check_rows.was) ∙ last-passes _ (sym c.cell_above.ensures ∙ c.if-cell_above.false))
