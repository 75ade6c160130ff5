-- The invariant of `hour_mcc::fill_mcc`.
use Rattle.std.proofs.Common.{◌≡◌, length, take}
use Rattle.lists.specs.Lists.{list_to}
use Rattle.hour_mcc.specs.Inner.{mcc_in}
use Rattle.hour_mcc.proofs.fill_mcc.Given as goal

abbrev pub invariant-loop-node : goal.invariant-loop-node
invariant-loop-node l = (length l.cell-items ≡ l.hour.factors.nodes) × (take l.node l.cell-items ≡ take l.node (list_to l.hour.factors.nodes (mcc_in l.hour)))
