-- The invariant of `migration_square::fill_row`.
use mathlib.Core.Path.{◌≡◌}
use Prim.Native.Nat.{◌+◌}
use lib.ListN.{length, take, drop}
use mathlib.Core.List.{◌++◌}
use Rattle.migration_square.specs.Inner.{row_cells}
use Rattle.migration_square.proofs.fill_row.Given as goal

abbrev pub invariant-loop-j : goal.invariant-loop-j
invariant-loop-j l = (length l.nets ≡ length l.initial.nets) × (take (l.at + l.j) l.nets ≡ take (l.at + l.j) (take l.at l.initial.nets ++ row_cells l.entities l.row)) × (drop (l.at + l.j) l.nets ≡ drop (l.at + l.j) l.initial.nets)
