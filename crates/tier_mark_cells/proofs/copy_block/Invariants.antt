-- The invariant of `tier_mark_cells::copy_block`: the cells passed are the source's.
use mathlib.Core.Path.{◌≡◌}
use lib.ListN.{length, drop}
use lib.Seq.{paste}
use Rattle.tier_mark_cells.proofs.copy_block.Given as goal

abbrev pub invariant-loop-k : goal.invariant-loop-k
invariant-loop-k l = (length l.flows ≡ length l.initial.flows) × (l.flows ≡ paste l.initial.flows l.to (drop l.from l.initial.flows) l.k)
