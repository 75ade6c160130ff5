-- The invariant of `remap_ends::every_node`.
use Rattle.std.proofs.Common.{◌≡◌, ℕ, ◌<◌, slice_index_or}
use Rattle.remap_ends.proofs.every_node.Given as goal

abbrev pub invariant-loop-node : goal.invariant-loop-node
invariant-loop-node l = (e : ℕ) → e < l.node → slice_index_or l.end-items e 0 ≡ e
