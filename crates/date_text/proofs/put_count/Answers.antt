-- `put_count`.
use native.Mathlib.Omega.{arith}
use Rattle.text_format.proofs.Putting.{◌and◌}
use Rattle.date_text.specs.TableText.{count_line}
use Rattle.date_text.proofs.Lines.{hours_long}
use Rattle.date_text.proofs.put_count.Goals as goal

pub put_decimal-requires : goal.put_decimal-requires
put_decimal-requires c = omega (arith, hours_long c.args.hours c.requires.0, c.requires.1)

pub put_char-requires : goal.put_char-requires
put_char-requires c =
    let p = c.put_decimal.ensures.put in
    omega (arith, hours_long c.args.hours c.requires.0, p.put.place, p.same_length, c.requires.1)

pub returns : goal.returns
unfolding count_line
returns c =
    let p = c.put_decimal.ensures.put and c.put_char.ensures in
    record { put = p; upper_bound = omega (arith, hours_long c.args.hours c.requires.0, c.put_decimal.ensures.put.put.place, c.put_char.ensures.put.place) }
