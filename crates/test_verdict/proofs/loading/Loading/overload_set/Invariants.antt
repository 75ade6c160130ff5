-- The invariant of `Loading::overload_set`.
use mathlib.Core.Path.{◌≡◌}
use Prim.Native.Nat.{ℕ, ◌+◌, ◌-◌}
use Rattle.lists.specs.Sets.{set_of}
use Rattle.test_rules.proofs.Judging.{over}
use Rattle.test_verdict.proofs.loading.Loading.overload_set.Given as goal

abbrev pub invariant-loop-k : goal.invariant-loop-k
invariant-loop-k l = l.set ≡ set_of (l.self.constraints - l.k) (λ (j : ℕ). over l.self.limits.now l.process l.self.flows.now.flows (l.k + j))
