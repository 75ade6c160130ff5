-- The invariant of `grid_writing::write_factors`.
use mathlib.Core.Path.{◌≡◌}
use mathlib.Core.List.{map}
use Prim.Native.Nat.{◌+◌, ◌*◌, ◌^◌}
use lib.ListN.{take}
use Rattle.bits.specs.Bits.{number}
use Rattle.bits.specs.Signed.{of_int}
use Rattle.bits.specs.Inner.{written, bits_written, WritesOn}
use Rattle.layouts.specs.GridFile.{factor_width}
use Rattle.grid_writing.proofs.write_factors.Given as goal

abbrev pub invariant-loop-factor : goal.invariant-loop-factor
invariant-loop-factor l = (bits_written l.writer ≡ bits_written l.initial.writer + factor_width * l.factor-index)
    × (written l.buf l.writer ≡ written l.initial.buf l.initial.writer * 2 ^ (factor_width * l.factor-index) + number factor_width
    (take l.factor-index (map (of_int factor_width) l.factors)))
    × WritesOn l.initial.buf l.initial.writer l.buf l.writer
