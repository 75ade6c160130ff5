-- `bits::writer::put`.
use mathlib.Core.Path.{◌∙◌}
use Prim.Native.Nat.{◌+◌}
use native.Mathlib.Omega.{arith}
use Rattle.bits.specs.Inner.{written}
use Rattle.bits.proofs.Writing.{bytes-turn, put_more}
use Rattle.bits.proofs.writer.put.Goals as goal

pub returns-then-held-lt32-clause-result_value : goal.returns-then-held-lt32-clause-result_value
unfolding written
returns-then-held-lt32-clause-result_value c =
    let a = c.args in
    put_more _ a.writer.held _ _ a.v a.width (c.join-bits.ensures a.writer.held (omega arith))

pub returns-clause-result_value : goal.returns-clause-result_value
unfolding written
returns-clause-result_value c =
    let a = c.args in
    bytes-turn 4 a.buf.now _ a.writer.at c.part.result (omega arith) c.store4.ensures (a.writer.held + a.width) c.join-bits.result (omega arith) c.part.ensures.0
    ∙ put_more _ a.writer.held _ _ a.v a.width (c.join-bits.ensures a.writer.held (omega arith))
