-- The invariant of `migration_square::fill_square`.
use mathlib.Core.Path.{◌≡◌}
use lib.ListN.{length}
use Rattle.lists.specs.Lent.{overwrite}
use Rattle.migration_square.specs.Inner.{rows_cells}
use Rattle.migration_square.proofs.fill_square.Given as goal

abbrev pub invariant-loop-i : goal.invariant-loop-i
invariant-loop-i l = (length l.nets ≡ length l.initial.nets) × (l.nets ≡ overwrite (rows_cells l.entities l.square l.i) l.initial.nets)
