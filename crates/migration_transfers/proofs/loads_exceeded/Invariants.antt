-- The invariant of `migration_transfers::loads_exceeded`.
use Rattle.std.specs.Prelude.{◌≡◌, false, suc, length, take}
use Rattle.lists.specs.Lists.{list_to, any_of}
use Rattle.migration_transfers.proofs.Losing.{loser_bad}
use Rattle.migration_transfers.proofs.loads_exceeded.Given as goal

abbrev pub invariant-loop-i : goal.invariant-loop-i
invariant-loop-i l = any_of (loser_bad l.square l.loads) (take l.i (list_to (length l.loads) suc)) ≡ false
