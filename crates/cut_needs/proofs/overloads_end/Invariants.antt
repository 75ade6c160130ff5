-- The invariant of `cut_needs::overloads_end`.
use Prim.Native.Nat.{ℕ, ◌≤◌, ◌<◌}
use lib.IntN.{pos}
use lib.Signed.{◌≤ℤ◌}
use Rattle.cut_needs.specs.Inner.{cell_at}
use Rattle.cut_needs.proofs.overloads_end.Given as goal

abbrev pub invariant-loop-k : goal.invariant-loop-k
invariant-loop-k l = (j : ℕ) → l.k ≤ j → j < l.constraints → cell_at l.excesses j ≤ℤ pos 0
