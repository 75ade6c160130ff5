-- `refusal_text`: a number without a sentence, a place that is too short, the sentence put.
use mathlib.Core.Path.{sym}
use native.Mathlib.Omega.{arith}
use Rattle.text_format.proofs.Putting.{put_same}
use Rattle.text_refusals.proofs.Parts.{span}
use Rattle.text_refusals.proofs.Answering.{none-put, too_short, put_whole}
use Rattle.text_refusals.proofs.refusal_text.Goals as goal

pub returns-then-number-gt-LAST : goal.returns-then-number-gt-LAST
returns-then-number-gt-LAST c = let a = c.args in none-put a.number a.text.now (omega (arith, c.if-number-gt-LAST.true))

pub overflow_sub-end : goal.overflow_sub-end
overflow_sub-end c = (span c.args.number _ _ (omega (arith, c.if-number-gt-LAST.false)) c.end-start.ensures c.end-end.ensures).rises

pub returns-then-text-end : goal.returns-then-text-end
returns-then-text-end c =
    let a = c.args in
    too_short a.number a.text.now (omega (arith, (span c.args.number _ _ (omega (arith, c.if-number-gt-LAST.false)) c.end-start.ensures c.end-end.ensures).long, c.if-text-end.true))

pub put_part-requires : goal.put_part-requires
put_part-requires c = let k = span c.args.number _ _ (omega (arith, c.if-number-gt-LAST.false)) c.end-start.ensures c.end-end.ensures in (k.rises, k.within, c.if-text-end.false)

pub returns : goal.returns
returns c =
    let a = c.args in
    let k = span c.args.number _ _ (omega (arith, c.if-number-gt-LAST.false)) c.end-start.ensures c.end-end.ensures in
    put_whole a.number a.text.now _ _ (omega (arith, k.long, c.if-text-end.false)) (put_same (sym k.text) c.put_part.ensures)
