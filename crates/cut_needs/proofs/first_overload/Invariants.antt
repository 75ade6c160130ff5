-- The invariant of `cut_needs::first_overload`.
use Prim.Native.Nat.{ℕ, ◌<◌}
use lib.IntN.{pos}
use lib.Signed.{◌≤ℤ◌}
use Rattle.cut_needs.specs.Inner.{cell_at}
use Rattle.cut_needs.proofs.first_overload.Given as goal

abbrev pub invariant-loop-k : goal.invariant-loop-k
invariant-loop-k l = (j : ℕ) → j < l.k → cell_at l.excesses j ≤ℤ pos 0
