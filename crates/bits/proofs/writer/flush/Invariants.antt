-- The invariant of `bits::writer::flush`: the last bytes stored so far, and the bits in front of them.
use mathlib.Core.Path.{◌≡◌}
use Prim.Native.Nat.{◌+◌, ◌-◌, ◌*◌, ◌/◌, ◌^◌}
use mathlib.Core.List.{◌++◌}
use lib.ListN.{take, drop}
use Rattle.bits.specs.Bits.{digits}
use Rattle.bits.proofs.writer.flush.Given as goal

abbrev pub invariant-loop-i : goal.invariant-loop-i
invariant-loop-i l =
    let first = l.writer.at + l.i in
    let count = l.whole - l.i in
    let v = l.writer.bits / 2 ^ l.rest in
    (l.bits ≡ v / 2 ^ (8 * count)) × (l.buf ≡ take first l.initial.buf ++ digits 8 count v ++ drop (first + count) l.initial.buf)
