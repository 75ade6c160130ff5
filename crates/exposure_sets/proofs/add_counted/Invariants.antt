-- The invariant of `exposure_sets::add_counted`.
use Rattle.std.proofs.Common.{◌≡◌, ℕ, ◌≤◌, ◌<◌, ◌+ℤ◌}
use Rattle.tariff.specs.ContractRules.{counted}
use Rattle.exposure_sets.specs.Inner.{cell_in_of}
use Rattle.exposure_sets.proofs.add_counted.Given as goal

abbrev pub invariant-loop-m : goal.invariant-loop-m
invariant-loop-m l = ((j : ℕ) → j < l.m → cell_in_of l.totals j ≡ cell_in_of l.initial.totals j +ℤ counted l.kind (cell_in_of l.figures j))
    × ((j : ℕ) → l.m ≤ j → cell_in_of l.totals j ≡ cell_in_of l.initial.totals j)
