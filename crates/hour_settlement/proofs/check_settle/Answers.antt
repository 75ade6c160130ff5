-- `check_settle`: the tables' checks, the book's own, then the room for the cents and for the sets.
use Rattle.std.proofs.Common.{sym, ◌∙◌, arith}
use Rattle.std.proofs.lemmas.Result.{err_from_is_err_and}
use Rattle.book_rules.proofs.Accepted.{book-accepted}
use Rattle.hour_rules.specs.SettleHour.{hour_call}
use Rattle.hour_rules.proofs.Passing.{tables-refuse, book-refuses, no_room, no_set_room, all-fits}
use Rattle.hour_settlement.proofs.check_settle.Goals as goal

pub returns-in_err-check_hour_tables : goal.returns-in_err-check_hour_tables
returns-in_err-check_hour_tables c =
    let a = c.args in
    let q = hour_call a.nodes a.constraints a.period a.factors.now a.prices.now a.book.now in
    let p = err_from_is_err_and c.from_residual.result c.from_residual.ensures.1 in
    rw (p.1, p.2) (tables-refuse q a.cells a.sets _ c.check_hour_tables.ensures _ c.in_err-check_hour_tables.was)

pub returns-in_err-check_book : goal.returns-in_err-check_book
returns-in_err-check_book c =
    let a = c.args in
    let q = hour_call a.nodes a.constraints a.period a.factors.now a.prices.now a.book.now in
    let p = err_from_is_err_and c.from_residual-in_err-check_book.result c.from_residual-in_err-check_book.ensures.1 in
    rw (p.1, p.2) (book-refuses q a.cells a.sets _ c.check_hour_tables.ensures c.in_ok-check_hour_tables.was _ c.check_book.ensures _ c.in_err-check_book.was)

pub contract_count-count-requires : goal.contract_count-count-requires
contract_count-count-requires c =
    let a = c.args in
    omega (arith, (book-accepted a.nodes a.book.now (sym c.check_book.ensures ∙ c.in_ok-check_book.was)).size)

pub returns-then-cells-count : goal.returns-then-cells-count
returns-then-cells-count c =
    let a = c.args in
    let q = hour_call a.nodes a.constraints a.period a.factors.now a.prices.now a.book.now in
    no_room q a.cells a.sets _ c.check_hour_tables.ensures c.in_ok-check_hour_tables.was
    _ c.check_book.ensures c.in_ok-check_book.was _ c.contract_count-count.ensures.0 c.if-cells-count.true

pub returns-then-sets-count : goal.returns-then-sets-count
returns-then-sets-count c =
    let a = c.args in
    let q = hour_call a.nodes a.constraints a.period a.factors.now a.prices.now a.book.now in
    no_set_room q a.cells a.sets _ c.check_hour_tables.ensures c.in_ok-check_hour_tables.was
    _ c.check_book.ensures c.in_ok-check_book.was _ c.contract_count-count.ensures.0 c.if-cells-count.false c.if-sets-count.true

pub returns : goal.returns
returns c =
    let a = c.args in
    let q = hour_call a.nodes a.constraints a.period a.factors.now a.prices.now a.book.now in
    all-fits q a.cells a.sets _ c.check_hour_tables.ensures c.in_ok-check_hour_tables.was
    _ c.check_book.ensures c.in_ok-check_book.was _ c.contract_count-count.ensures.0 c.if-cells-count.false c.if-sets-count.false
