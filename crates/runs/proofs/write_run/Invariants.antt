-- The invariant of `runs::write_run`.
use mathlib.Core.Path.{◌≡◌}
use Prim.Native.Nat.{◌+◌, ◌*◌, ◌^◌}
use lib.ListN.{take}
use Rattle.bits.specs.Bits.{number}
use Rattle.bits.specs.Inner.{written, bits_written, WritesOn}
use Rattle.runs.proofs.write_run.Given as goal

abbrev pub invariant-loop-cell : goal.invariant-loop-cell
invariant-loop-cell l = (bits_written l.writer ≡ bits_written l.initial.writer + l.width * l.cell-index)
    × (written l.buf l.writer ≡ written l.initial.buf l.initial.writer * 2 ^ (l.width * l.cell-index) + number l.width (take l.cell-index l.cells))
    × WritesOn l.initial.buf l.initial.writer l.buf l.writer
