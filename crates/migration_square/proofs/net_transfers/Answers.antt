-- `net_transfers`: where no check refuses, the square that is netted goes into the cells.
use mathlib.Core.Path.{sym, ap, ◌∙◌}
use mathlib.Core.List.{List}
use lib.IntN.{ℤ}
use Rattle.lists.specs.Lent.{overwrite}
use Rattle.std.proofs.lemmas.Result.{err_from_is_err_and}
use Rattle.tariff.proofs.Answers.{answer-refused, cells-refused, answer-passed, cells-passed}
use Rattle.migration_rules.specs.Transfers.{row_lists, migration_rows_in}
use Rattle.migration_square.specs.NetTransfers.{net_transfers_call, net_transfers_checked, nets_given}
use Rattle.migration_square.proofs.Cells.{square_laid}
use Rattle.migration_square.proofs.Passing.{ready}
use Rattle.migration_square.proofs.net_transfers.Goals as goal

pub returns-in_err-check_nets : goal.returns-in_err-check_nets
returns-in_err-check_nets c =
    let a = c.args in
    let q = net_transfers_call a.entities (row_lists a.classes.now a.customers.now a.rates.now a.olds.now a.news.now) a.nets.now in
    let told = c.in_err-check_nets.was in
    let checked = c.check_nets in
    let p = err_from_is_err_and c.from_residual.result c.from_residual.ensures.1 in
    rw (p.1, p.2) (record {
      nothing_else = answer-refused checked.result (net_transfers_checked q) checked.ensures _ told _;
      nets-given = cells-refused checked.result (net_transfers_checked q) checked.ensures _ told (nets_given q) q.place;
    })

-- none of the checks refuses
pub net_square-square-requires : goal.net_square-square-requires
net_square-square-requires c =
    let a = c.args in
    let q = net_transfers_call a.entities (row_lists a.classes.now a.customers.now a.rates.now a.olds.now a.news.now) a.nets.now in
    (ready q (sym c.check_nets.ensures ∙ c.in_ok-check_nets.was)).rows

pub fill_square-requires : goal.fill_square-requires
fill_square-requires c =
    let a = c.args in
    let q = net_transfers_call a.entities (row_lists a.classes.now a.customers.now a.rates.now a.olds.now a.news.now) a.nets.now in
    let ok = ready q (sym c.check_nets.ensures ∙ c.in_ok-check_nets.was) in
    (ok.few, ok.room, c.net_square-square.ensures.size)

pub returns : goal.returns
returns c =
    let a = c.args in
    let q = net_transfers_call a.entities (row_lists a.classes.now a.customers.now a.rates.now a.olds.now a.news.now) a.nets.now in
    let ok = ready q (sym c.check_nets.ensures ∙ c.in_ok-check_nets.was) in
    let told = c.in_ok-check_nets.was in
    let checked = c.check_nets in
    let square = c.net_square-square in
    let cells = c.fill_square.ensures
    ∙ ap (λ (values : List ℤ). overwrite values q.place) (square_laid q.entities ok.few (migration_rows_in q.lists) square.result square.ensures.nets) in
    record {
      nothing_else = answer-passed checked.result (net_transfers_checked q) checked.ensures told _;
      nets-given = cells-passed checked.result (net_transfers_checked q) checked.ensures told (nets_given q) q.place _ cells;
    }
