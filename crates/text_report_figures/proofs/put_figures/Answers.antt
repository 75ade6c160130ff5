-- `put_figures`: the parts of a failed test's figures, one behind the other.
use mathlib.Core.Path.{◌≡◌, sym, ap}
use native.Mathlib.Omega.{arith}
use mir.Syntax.{w64}
use mir.Val.{to_z, of_z}
use borrow.Author.Rules.{rules}
use Rattle.text_format.specs.Decimal.{decimal_z}
use Rattle.text_report_rules.specs.Inner.{failed}
use Rattle.text_format.proofs.Digits.{length-decimal, length-decimal_z}
use Rattle.text_format.proofs.Putting.{puts_same, ◌and◌}
use Rattle.text_report_figures.proofs.put_figures.Goals as goal

pub put_decimal-requires : goal.put_decimal-requires
put_decimal-requires c =
    let p = c.put-in-Fail.ensures in
    omega (arith, p.same_length, p.put.place, length-decimal c.in-Fail.count, length-decimal c.in-Fail.lowest, c.requires)

pub put_decimal-requires-in-Fail : goal.put_decimal-requires-in-Fail
put_decimal-requires-in-Fail c =
    let p1 = c.put-in-Fail.ensures in
    let p2 = c.put_decimal.ensures in
    let p3 = c.put_char.ensures in
    let p = p1 and p2.put and p3 in
    omega (arith, p.same_length, p1.put.place, p2.upper_bound, p3.put.place, length-decimal c.in-Fail.lowest, c.requires)

pub put_signed-requires : goal.put_signed-requires
put_signed-requires c =
    let p1 = c.put-in-Fail.ensures in
    let p2 = c.put_decimal.ensures in
    let p3 = c.put_char.ensures in
    let p4 = c.put_decimal-in-Fail.ensures in
    let p5 = c.put_char-in-Fail.ensures in
    let p = p1 and p2.put and p3 and p4.put and p5 in
    omega (arith, p.same_length, p1.put.place, p2.upper_bound, p3.put.place, p4.upper_bound, p5.put.place, length-decimal_z (to_z w64 (of_z w64 c.in-Fail.excess.0)), c.requires)

pub returns-in-Fail-clause-put : goal.returns-in-Fail-clause-put
unfolding failed
returns-in-Fail-clause-put c =
    let fits : to_z w64 (of_z w64 c.in-Fail.excess.0) ≡ c.in-Fail.excess.0 = search rules in
    let over = puts_same (ap decimal_z (sym fits)) c.put_signed.ensures.put in
    let p = c.put-in-Fail.ensures and c.put_decimal.ensures.put and c.put_char.ensures and c.put_decimal-in-Fail.ensures.put and c.put_char-in-Fail.ensures and over and c.put_char-in-Fail-2.ensures and c.put_numbers.ensures.put in
    rw c.in-Fail.is p
