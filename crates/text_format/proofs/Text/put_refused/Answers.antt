-- `put_refused`: five texts, one behind the other.
use native.Mathlib.Omega.{arith}
use Rattle.text_format.specs.RefusedLine.{refused_line_of}
use Rattle.text_format.proofs.Answering.{number_short}
use Rattle.text_format.proofs.Putting.{◌and◌}
use Rattle.text_format.proofs.Text.put_refused.Goals as goal

pub put_decimal-requires : goal.put_decimal-requires
put_decimal-requires c = let p3 = c.put.ensures and c.put-2.ensures and c.put_char.ensures in
    omega (arith, p3.same_length, p3.put.place, c.requires, number_short c.number.result c.args.refusal c.number.ensures)

pub put_char-requires-2 : goal.put_char-requires-2
put_char-requires-2 c =
    let p4 = c.put.ensures and c.put-2.ensures and c.put_char.ensures and c.put_decimal.ensures.put in
    omega (arith, p4.same_length, p4.put.place, c.requires, number_short c.number.result c.args.refusal c.number.ensures)

pub returns : goal.returns
unfolding refused_line_of
returns c = c.put.ensures and c.put-2.ensures and c.put_char.ensures and (rw c.number.ensures at c.put_decimal.ensures.put) and c.put_char-2.ensures
