-- `bits::writer::join`: what is shifted out is lost, and the bits behind one another fit.
use native.Mathlib.Omega.{arith}
use Rattle.bits.proofs.Writing.{join_lt, join_low}
use Rattle.bits.proofs.writer.join.Goals as goal

pub overflow_add-result : goal.overflow_add-result
overflow_add-result c = omega (arith, join_lt c.args.a c.args.v c.args.width c.requires.1 c.requires.0)

pub returns : goal.returns
returns c held h = join_low c.args.a c.args.v c.args.width c.requires.1 c.requires.0 held h
