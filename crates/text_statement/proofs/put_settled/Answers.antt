-- `put_settled`: what settling leaves fits the lines.
use native.Mathlib.Omega.{arith}
use Rattle.text_format.proofs.Putting.{puts_same}
use Rattle.book_rules.proofs.Accepted.{book-accepted}
use Rattle.text_statement_lines.specs.Inner.{settled_lines_of}
use Rattle.text_statement_lines.proofs.Settled.{settled_sized, settled_lines}
use Rattle.text_statement.proofs.put_settled.Goals as goal

pub settle-totals-requires : goal.settle-totals-requires
settle-totals-requires c =
    let few = (book-accepted c.args.hour.factors.nodes c.args.book.now c.requires.book_value).few in
    record { book_value = c.requires.book_value; book_in_bounds = (few, few) }

pub of-requires : goal.of-requires
of-requires c =
    let o = book-accepted c.args.hour.factors.nodes c.args.book.now c.requires.book_value in
    (omega (arith, o.size), omega (arith, o.size))

pub invariant_of-settled : goal.invariant_of-settled
invariant_of-settled c =
    let few = (book-accepted c.args.hour.factors.nodes c.args.book.now c.requires.book_value).few in
    record { sized = rw c.of.ensures.2 (settled_sized c.settle-totals.ensures few (omega (arith, few)) (omega (arith, few))) }

pub returns : goal.returns
unfolding settled_lines_of
returns c =
    let of = c.of.ensures in
    puts_same (settled_lines c.settle-totals.ensures) (rw (of.0, of.1, of.2) at c.put_lines.ensures)
