-- `settle`: the MCCs are the hour's, and each contract is in range.
use mathlib.Core.Path.{refl}
use native.Mathlib.Omega.{arith}
use Rattle.book_rules.proofs.Accepted.{book-accepted}
use Rattle.hour_rules.proofs.HourSums.{settled}
use Rattle.hour_contracts.proofs.settle.Goals as goal

pub of-requires : goal.of-requires
of-requires c =
    let o = book-accepted c.args.tables.factors.nodes c.args.book.now c.requires.book_value in
    (omega (arith, o.size), omega (arith, o.size))

pub settle_contracts-requires : goal.settle_contracts-requires
settle_contracts-requires c =
    let a = c.args in
    let o = book-accepted a.tables.factors.nodes a.book.now c.requires.book_value in
    let of = c.of.ensures in
    record {
      mccs_are = rw c.of-hour.ensures.tables_kept c.all_mccs-mccs.ensures;
      by_index = rw (c.of-hour.ensures.tables_kept, of.0, of.1, of.2) o.each;
      count_in_bounds = rw of.2 (omega (arith, o.few), c.requires.book_in_bounds.0, c.requires.book_in_bounds.1);
    }

pub returns : goal.returns
returns c =
    let a = c.args in
    let t = a.tables in
    let of = c.of.ensures in
    let by = rw (c.of-hour.ensures.tables_kept, c.of-hour.ensures.period_kept, of.0, of.1, of.2) at c.settle_contracts.ensures in
    settled t.factors.nodes t.factors.constraints t.factors.cells.now t.prices.now t.good a.period a.book.now c.requires.book_value _ refl _ _ _ _ _ by
