-- The invariant of `hour_mcc::all_mccs`.
use Rattle.std.proofs.Common.{◌≡◌, ℕ, ◌<◌, length, get_or, pos}
use Rattle.tariff.specs.Units.{max_nodes}
use Rattle.hour_mcc.specs.Inner.{MccAt}
use Rattle.hour_mcc.proofs.all_mccs.Given as goal

abbrev pub invariant-loop-node : goal.invariant-loop-node
invariant-loop-node l = (length l.mccs ≡ max_nodes) × ((i : ℕ) → i < l.node → MccAt l.hour i (get_or l.mccs i (record { 0 = pos 0 })))
