-- The invariant of `cut_needs::clears`.
use mathlib.Core.Path.{◌≡◌}
use mathlib.Core.Bool.{true}
use Rattle.cut_rules.specs.Inner.{enough}
use Rattle.cut_needs.specs.Inner.{cell_at, slope_in}
use Rattle.cut_needs.proofs.ExcessTable.clears.Given as goal

abbrev pub invariant-loop-k : goal.invariant-loop-k
invariant-loop-k l = enough l.k (cell_at l.self.cells.now) (slope_in l.self.test.grid.factors.constraints l.self.test.grid.factors.cells.now l.c) l.cut.0 ≡ true
