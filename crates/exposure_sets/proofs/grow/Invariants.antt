-- The invariant of `exposure_sets::grow`.
use Rattle.std.proofs.Common.{◌≡◌, ℕ, ◌+◌, ◌<◌, ◌+ℤ◌}
use Rattle.exposure_sets.specs.Inner.{cell_in_of}
use Rattle.exposure_sets.proofs.grow.Given as goal

abbrev pub invariant-loop-m : goal.invariant-loop-m
invariant-loop-m l = ((j : ℕ) → j < l.n → cell_in_of l.sums j ≡ cell_in_of l.initial.sums j) × ((j : ℕ) → j < l.m → cell_in_of l.sums (l.n + j) ≡ cell_in_of l.initial.sums j +ℤ l.x.0)
