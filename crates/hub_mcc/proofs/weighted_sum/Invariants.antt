-- The invariant of `hub_mcc::weighted_sum`.
use mathlib.Core.Path.{◌≡◌}
use mathlib.Core.List.{List}
use Prim.Native.Nat.{ℕ, ◌+◌, ◌≤◌}
use lib.ListN.{length, drop}
use lib.IntN.{ℤ, nat_abs, ◌+ℤ◌}
use Rattle.grid_tables.specs.declared.table.HourTable.{HourTable}
use Rattle.grid_tables.specs.Hours.{factors_by, prices_by}
use Rattle.tariff.specs.Inner.{max_weighted}
use Rattle.hub_rules.specs.Hubs.{hub_sum}
use Rattle.hub_mcc.proofs.Weighing.{to_come}
use Rattle.hub_mcc.proofs.weighted_sum.Given as goal

abbrev pub sum_of : HourTable → List ℕ → List ℕ → ℤ
sum_of t = hub_sum (factors_by t) (prices_by t)

abbrev pub invariant-loop-node : goal.invariant-loop-node
invariant-loop-node l = (l.sum.0 +ℤ sum_of l.hour (drop (length l.yielded) l.hub) (drop (length l.yielded) l.weights) ≡ sum_of l.hour l.hub l.weights)
    × (nat_abs l.sum.0 + to_come l.weights (length l.yielded) ≤ max_weighted)
