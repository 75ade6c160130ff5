-- What is known of a call that netting's checks accept.
use mathlib.Core.Path.{◌≡◌}
use Prim.Native.Nat.{◌*◌, ◌≤◌}
use borrow.Author.Tests.{ltb-false}
use lib.ListN.{length}
use Rattle.tariff.specs.Refusals.{passed}
use Rattle.tariff.specs.Units.{max_entities}
use Rattle.tariff.proofs.Checks.{passed_cons, passed_append}
use Rattle.migration_rules.specs.Transfers.{migration_row_checks}
use Rattle.migration_transfers.specs.Inner.{RowsIn}
use Rattle.migration_transfers.proofs.Rows.{rowed}
use Rattle.migration_square.specs.NetTransfers.{NetTransfersCall, net_transfers_checks, net_transfers_checked}

pub record Ready (q : NetTransfersCall) : Type 0 where
  pub few : q.entities ≤ max_entities
  pub rows : RowsIn q.lists.customers q.lists.rates q.lists.olds q.lists.news
  pub room : q.entities * q.entities ≤ length q.place

pub ready : (q : NetTransfersCall) → net_transfers_checked q ≡ passed → Ready q
unfolding net_transfers_checks
ready q e =
    let p = passed_append (migration_row_checks q.entities q.lists) _ e in
    let r = rowed q.entities q.lists p.0 in
    record { few = r.few; rows = r.rows; room = ltb-false (length q.place) (q.entities * q.entities) (passed_cons _ _ p.1).0 }
