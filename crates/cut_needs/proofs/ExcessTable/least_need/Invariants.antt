-- The invariant of `cut_needs::least_need`.
use mathlib.Core.Path.{◌≡◌}
use Prim.Native.Nat.{◌≤◌}
use Rattle.cut_rules.specs.Inner.{need}
use Rattle.cut_needs.specs.Inner.{cell_at, slope_in}
use Rattle.cut_needs.proofs.ExcessTable.least_need.Given as goal

abbrev pub invariant-loop-k : goal.invariant-loop-k
invariant-loop-k l = (l.k ≤ l.self.test.grid.factors.constraints) × (l.need.0 ≤ l.c.quantity.0)
    × (l.need.0 ≡ need l.k (cell_at l.self.cells.now) (slope_in l.self.test.grid.factors.constraints l.self.test.grid.factors.cells.now l.c))
