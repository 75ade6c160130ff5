-- The invariant of `grid_reading::reading.read_factors`.
use mathlib.Core.Path.{◌≡◌}
use lib.ListN.{length, take}
use Rattle.grid_rules.specs.Inner.{factors_at}
use Rattle.grid_reading.proofs.reading.read_factors.Given as goal

abbrev pub invariant-loop-i : goal.invariant-loop-i
invariant-loop-i l = take l.i l.out ≡ take l.i (factors_at l.file l.offset (length l.initial.out))
