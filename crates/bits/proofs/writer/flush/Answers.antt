-- `bits::writer::flush`: a turn stores the byte in front of those that are stored.
use mathlib.Core.Path.{◌≡◌, ap}
use Prim.Native.Nat.{ℕ, ◌+◌, ◌-◌, ◌*◌, ◌/◌, ◌%◌, ◌^◌, ◌≤◌}
use native.Mathlib.Nat.{div-one}
use native.Mathlib.Omega.{arith}
use lib.ListN.{length}
use lib.Pow.{shr-shr}
use Rattle.bits.specs.Bits.{digits}
use Rattle.bits.specs.Inner.{written}
use Rattle.bits.proofs.Numbers.{length_digits, digits_number, number_digits, below-digits}
use Rattle.bits.proofs.Storing.{stored_one, stored}
use Rattle.bits.proofs.Writing.{bytes-turn}
use Rattle.bits.proofs.writer.flush.Goals as goal

pub loop-i-preserved : goal.loop-i-preserved
loop-i-preserved c =
    let l = c.loop-i in
    let a = c.args in
    let v = a.writer.bits / 2 ^ (a.writer.held % 8) in
    let count = a.writer.held / 8 - l.i in
    let at = a.writer.at + (l.i - 1) in
    let room : at + 1 ≤ length l.buf = omega arith in
    let next : a.writer.at + l.i ≡ at + 1 = omega arith in
    let more : a.writer.held / 8 - (l.i - 1) ≡ 1 + count = omega arith in
    let low : 8 * (1 + count) ≡ 8 * count + 8 = omega arith in
    let lower = rw next at l.invariant.1 in
    let upper = stored_one 8 (v / 2 ^ (8 * count)) at (l.bits % 256) l.buf room (rw (l.invariant.0, div-one)) in
    (rw (more, low, ← shr-shr v (8 * count) 8) (ap (λ (x : ℕ). x / 256) l.invariant.0), rw more (stored 8 1 count v at a.buf.now (omega arith) lower upper))

pub returns-clause-result_value : goal.returns-clause-result_value
unfolding written
returns-clause-result_value c =
    let l = c.loop-i in
    let w = c.args.writer in
    let v = w.bits / 2 ^ (w.held % 8) in
    let n = w.held / 8 in
    let front : w.at + l.i ≡ w.at = omega arith in
    let all : n - l.i ≡ n = omega arith in
    let rest : w.held - 8 * n ≡ w.held % 8 = omega arith in
    let same = rw (length_digits 8 n v, number_digits 8 n v) at (digits_number 8 (digits 8 n v) (below-digits 8 n v)) in
    let stores = rw (front, all, ← same) at l.invariant.1 in
    let turn = bytes-turn n c.args.buf.now _ w.at (v % 2 ^ (8 * n)) (omega arith) stores w.held w.bits (omega arith) (rw rest) in
    rw rest at turn
