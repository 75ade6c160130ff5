-- The invariant of `test_totals::add_cells`.
use mathlib.Core.Path.{◌≡◌}
use Prim.Native.Nat.{ℕ}
use lib.ListN.{length, get_or, take, drop}
use lib.IntN.{pos, ◌+ℤ◌}
use Rattle.lists.specs.Lists.{list_to}
use Rattle.test_totals.proofs.add_cells.Given as goal

abbrev pub invariant-loop-k : goal.invariant-loop-k
invariant-loop-k l = (length l.out ≡ length l.initial.out)
    × (take l.k l.out ≡ take l.k (list_to l.constraints (λ (j : ℕ). get_or l.initial.out j (pos 0) +ℤ get_or l.carried.flows j (pos 0)))) × (drop l.k l.out ≡ drop l.k l.initial.out)
