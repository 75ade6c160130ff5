-- `settle_hour`: where no check refuses, what is settled is given.
use Rattle.std.proofs.Common.{sym, ◌∙◌, length}
use Rattle.hour_rules.specs.SettleHour.{hour_call}
use Rattle.hour_rules.proofs.Passing.{settle_ready}
use Rattle.hour_settlement.proofs.settle_hour.Goals as goal

pub of-tables-requires : goal.of-tables-requires
of-tables-requires c =
    let a = c.args in
    let q = hour_call a.nodes a.constraints a.period a.factors.now a.prices.now a.book.now in
    (settle_ready q (length a.cents.now) (length a.sets.now) (sym c.check_settle.ensures ∙ c.in_ok-check_settle.was)).hour

pub settle-totals-requires : goal.settle-totals-requires
settle-totals-requires c =
    let a = c.args in
    let q = hour_call a.nodes a.constraints a.period a.factors.now a.prices.now a.book.now in
    let o = settle_ready q (length a.cents.now) (length a.sets.now) (sym c.check_settle.ensures ∙ c.in_ok-check_settle.was) in
    record { book_value = rw c.of-tables.ensures.nodes_kept o.own; book_in_bounds = (o.room, o.set_room) }
