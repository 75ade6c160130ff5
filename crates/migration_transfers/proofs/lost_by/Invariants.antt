-- The invariant of `migration_transfers::lost_by`.
use Rattle.std.specs.Prelude.{◌≡◌, ℕ, ◌*◌, ◌≤◌}
use Rattle.migration_rules.specs.Transfers.{losses_to}
use Rattle.migration_transfers.specs.Squares.{row_losses}
use Rattle.migration_transfers.specs.Inner.{max_net}
use Rattle.migration_transfers.proofs.lost_by.Given as goal

abbrev pub invariant-loop-net : goal.invariant-loop-net
invariant-loop-net l = ((i : ℕ) → l.lost.0 ≡ losses_to (row_losses l.fn.row) i l.net-index) × (l.lost.0 ≤ max_net * l.net-index)
