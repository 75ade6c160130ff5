-- `put_exact`.
use mathlib.Core.List.{◌++◌, append_assoc}
use native.Mathlib.Omega.{arith}
use Rattle.text_format.specs.Ascii.{ascii}
use Rattle.text_format.specs.Decimal.{decimal, decimal_z}
use Rattle.text_format.proofs.Putting.{◌and◌, puts_same}
use Rattle.text_statement_lines.specs.Lines.{exact_line}
use Rattle.text_statement_lines.proofs.Figures.{kept, total-long, parts-long}
use Rattle.text_statement_lines.proofs.put_exact.Goals as goal

pub put_signed-requires : goal.put_signed-requires
put_signed-requires c = let p1 = c.put.ensures in omega (arith, p1.put.place, p1.same_length, total-long c.args.whole c.requires.0, c.requires.2)

pub put_number-requires : goal.put_number-requires
put_number-requires c =
    let p1 = c.put.ensures in
    let p2 = c.put_signed.ensures.put in
    let p3 = c.put_char.ensures in
    let cents = total-long c.args.whole c.requires.0 in
    omega (arith, p1.put.place, p2.put.place, p3.put.place, (p1 and p2 and p3).same_length, cents, parts-long c.args.parts c.requires.1, c.requires.2)

pub returns : goal.returns
unfolding exact_line
returns c =
    let a = c.args in
    let p1 = c.put.ensures in
    let p2 = c.put_signed.ensures.put in
    let p3 = c.put_char.ensures in
    let p4 = c.put_number.ensures in
    record {
      put = puts_same (append_assoc (ascii "exact," ++ decimal_z a.whole ++ ascii ",") (decimal a.parts) (ascii "\n"))
          (p1 and rw (kept a.whole c.requires.0) at p2 and p3 and p4.put);
      upper_bound = omega (arith, p1.put.place, p2.put.place, p3.put.place, p4.value, total-long a.whole c.requires.0, parts-long a.parts c.requires.1);
    }
