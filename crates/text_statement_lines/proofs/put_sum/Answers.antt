-- `put_sum`.
use native.Mathlib.Omega.{arith}
use Rattle.text_format.proofs.Putting.{◌and◌}
use Rattle.text_statement_lines.specs.Lines.{sum_line}
use Rattle.text_statement_lines.proofs.Figures.{kept, total-long}
use Rattle.text_statement_lines.proofs.put_sum.Goals as goal

pub put_signed-requires : goal.put_signed-requires
put_signed-requires c = let p1 = c.put.ensures in omega (arith, p1.put.place, p1.same_length, total-long c.args.sum c.requires.0, c.requires.1)

pub put_char-requires : goal.put_char-requires
put_char-requires c =
    let p1 = c.put.ensures in
    let p2 = c.put_signed.ensures.put in
    omega (arith, p1.put.place, p2.put.place, (p1 and p2).same_length, total-long c.args.sum c.requires.0, c.requires.1)

pub returns : goal.returns
unfolding sum_line
returns c =
    let p1 = c.put.ensures in
    let p2 = c.put_signed.ensures.put in
    let p3 = c.put_char.ensures in
    record {
      put = p1 and rw (kept c.args.sum c.requires.0) at p2 and p3;
      upper_bound = omega (arith, p1.put.place, p2.put.place, p3.put.place, total-long c.args.sum c.requires.0);
    }
