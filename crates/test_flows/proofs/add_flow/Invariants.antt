-- The invariant of `test_flows::add_flow`.
use Rattle.std.proofs.Common.{◌≡◌, ℕ, ◌≤◌, ◌<◌, get_or, pos, ◌+ℤ◌}
use Rattle.test_flows.specs.Inner.{flow_by}
use Rattle.test_flows.proofs.add_flow.Given as goal

abbrev pub invariant-loop-k : goal.invariant-loop-k
invariant-loop-k l = ((j : ℕ) → j < l.k → get_or l.flow-items j (pos 0) ≡ get_or l.initial.flow-items j (pos 0) +ℤ flow_by l.source l.sink l.c j)
    × ((j : ℕ) → l.k ≤ j → get_or l.flow-items j (pos 0) ≡ get_or l.initial.flow-items j (pos 0))
