-- The invariant of `tier_mark_cells::drop_marks`: the marks of the tiers passed are dropped.
use mathlib.Core.Path.{◌≡◌}
use Prim.Native.Nat.{◌-◌}
use Rattle.tier_rules.specs.Cells.{drop_marks_of}
use Rattle.tier_mark_cells.proofs.drop_marks.Given as goal

abbrev pub invariant-loop-j : goal.invariant-loop-j
invariant-loop-j l = l.numbers ≡ drop_marks_of l.most (l.j - 1) l.initial.numbers
