-- `find_mcc`: where no check refuses, the figures are in range and the cells suffice.
use Rattle.std.proofs.Common.{sym, ◌∙◌, length}
use Rattle.std.proofs.lemmas.Result.{err_from_is_err_and}
use Rattle.tariff.proofs.Answers.{answer-refused, cells-refused, answer-passed, cells-passed}
use Rattle.grid_tables.proofs.Passing.{hour_tables, hour_of}
use Rattle.hour_mcc.specs.FindMcc.{find_mcc_call, mcc_cells}
use Rattle.hour_mcc.proofs.Passing.{mcc-checks}
use Rattle.hour_mcc.proofs.find_mcc.Goals as goal

pub of-requires : goal.of-requires
of-requires c =
    let a = c.args in
    let told = sym c.check_hour_tables.ensures ∙ c.in_ok-check_hour_tables.was in
    hour_of (hour_tables a.nodes a.constraints 0 a.factors.now a.prices.now (length a.mcc.now) told)

pub fill_mcc-requires : goal.fill_mcc-requires
fill_mcc-requires c =
    let a = c.args in
    let told = sym c.check_hour_tables.ensures ∙ c.in_ok-check_hour_tables.was in
    record { nodes_in_bounds = rw c.of.ensures.nodes_kept (hour_tables a.nodes a.constraints 0 a.factors.now a.prices.now (length a.mcc.now) told).room }

pub returns-in_err-check_hour_tables : goal.returns-in_err-check_hour_tables
returns-in_err-check_hour_tables c =
    let a = c.args in
    let q = find_mcc_call a.nodes a.constraints a.factors.now a.prices.now a.mcc.now in
    let found = c.check_hour_tables.ensures ∙ mcc-checks q in
    let told = c.in_err-check_hour_tables.was in
    let p = err_from_is_err_and c.from_residual.result c.from_residual.ensures.1 in
    rw (p.1, p.2) (record { nothing_else = answer-refused _ _ found _ told _; mccs_found = cells-refused _ _ found _ told (mcc_cells q) _ })

pub returns : goal.returns
returns c =
    let a = c.args in
    let q = find_mcc_call a.nodes a.constraints a.factors.now a.prices.now a.mcc.now in
    let found = c.check_hour_tables.ensures ∙ mcc-checks q in
    let told = c.in_ok-check_hour_tables.was in
    let kept = c.of.ensures in
    let filled = rw (kept.nodes_kept, kept.constraints_kept, kept.factors_kept, kept.prices_kept) at c.fill_mcc.ensures in
    record { nothing_else = answer-passed _ _ found told _; mccs_found = cells-passed _ _ found told (mcc_cells q) a.mcc.now _ filled }
