-- The invariant of `remap_ends::moved_ends`.
use mathlib.Core.Path.{◌≡◌}
use Prim.Native.Nat.{ℕ, ◌<◌}
use lib.ListN.{length, get_or, drop}
use Rattle.tariff.specs.Units.{max_nodes}
use Rattle.remap_rules.specs.RemapBook.{moved_end}
use Rattle.remap_ends.proofs.moved_ends.Given as goal

abbrev pub invariant-loop-i : goal.invariant-loop-i
invariant-loop-i l = (length l.ends ≡ max_nodes) × ((e : ℕ) → e < l.nodes → get_or l.ends e 0 ≡ moved_end (drop l.i l.old) (drop l.i l.new) e)
