-- `put_contract`: the figures fit their places.
use mathlib.Core.Path.{ap, ◌∙◌}
use Prim.Native.Nat.{◌+◌, ◌≤◌}
use native.Mathlib.Omega.{arith}
use lib.ListN.{length}
use mir.Syntax.{w64}
use mir.Val.{to_z, of_z}
use Rattle.text_format.specs.Decimal.{decimal, decimal_z}
use Rattle.text_format.proofs.Putting.{◌and◌, puts_same}
use Rattle.text_statement_lines.specs.declared.book.Line.{Line}
use Rattle.text_statement_lines.proofs.Figures.{number-long, holder-long, kind-long, cents-long, size-long, kept, contract-text}
use Rattle.text_statement_lines.proofs.put_contract.Goals as goal

long : (line : Line)
    → length (decimal line.number) + length (decimal line.contract.holder) + length (decimal_z (to_z w64 (of_z w64 line.cents))) + length (decimal line.priced) ≤ 21
long line =
    let s = line.sized in
    omega (
      arith,
      number-long line.number s.number-few,
      holder-long line.contract.holder s.holder-fits,
      cents-long line.cents s.cents-sized,
      size-long line.priced s.priced-few,
    )

pub put_number-requires : goal.put_number-requires
put_number-requires c = omega (arith, long c.args.line, c.requires)

pub put_number-requires-2 : goal.put_number-requires-2
put_number-requires-2 c = let p1 = c.put_number.ensures in omega (arith, long c.args.line, p1.value, p1.put.same_length, c.requires)

pub put-requires : goal.put-requires
put-requires c =
    let p1 = c.put_number.ensures in
    let p2 = c.put_number-2.ensures in
    let word = ap length c.kind_field.ensures ∙ kind-long c.args.line.contract.kind in
    omega (arith, long c.args.line, p1.value, p2.value, word, (p1.put and p2.put).same_length, c.requires)

pub put_signed-requires : goal.put_signed-requires
put_signed-requires c =
    let p1 = c.put_number.ensures in
    let p2 = c.put_number-2.ensures in
    let p3 = c.put.ensures in
    let word = ap length c.kind_field.ensures ∙ kind-long c.args.line.contract.kind in
    omega (arith, long c.args.line, p1.value, p2.value, p3.put.place, word, (p1.put and p2.put and p3).same_length, c.requires)

pub put_char-requires : goal.put_char-requires
put_char-requires c =
    let p1 = c.put_number.ensures in
    let p2 = c.put_number-2.ensures in
    let p3 = c.put.ensures in
    let p4 = c.put_signed.ensures.put in
    let word = ap length c.kind_field.ensures ∙ kind-long c.args.line.contract.kind in
    omega (arith, long c.args.line, p1.value, p2.value, p3.put.place, p4.put.place, word, (p1.put and p2.put and p3 and p4).same_length, c.requires)

pub put_number-requires-3 : goal.put_number-requires-3
put_number-requires-3 c =
    let p1 = c.put_number.ensures in
    let p2 = c.put_number-2.ensures in
    let p3 = c.put.ensures in
    let p4 = c.put_signed.ensures.put in
    let p5 = c.put_char.ensures in
    let word = ap length c.kind_field.ensures ∙ kind-long c.args.line.contract.kind in
    let room = (p1.put and p2.put and p3 and p4 and p5).same_length in
    omega (arith, long c.args.line, p1.value, p2.value, p3.put.place, p4.put.place, p5.put.place, word, room, c.requires)

pub returns : goal.returns
returns c =
    let line = c.args.line in
    let p1 = c.put_number.ensures in
    let p2 = c.put_number-2.ensures in
    let p3 = c.put.ensures in
    let p4 = c.put_signed.ensures.put in
    let p5 = c.put_char.ensures in
    let p6 = c.put_number-3.ensures in
    let word = ap length c.kind_field.ensures ∙ kind-long line.contract.kind in
    let same = kept line.cents (omega (arith, line.sized.cents-sized)) in
    record {
      put = puts_same (contract-text line.number line.contract line.cents line.priced)
          (p1.put and p2.put and rw c.kind_field.ensures at p3 and rw same at p4 and p5 and p6.put);
      upper_bound = omega (arith, long line, p1.value, p2.value, p3.put.place, p4.put.place, p5.put.place, p6.value, word);
    }
