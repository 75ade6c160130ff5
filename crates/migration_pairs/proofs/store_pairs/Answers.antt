-- `store_pairs`: after j turns the contracts of the first j gainers are stored.
use mathlib.Core.Path.{◌≡◌, refl, ◌∙◌}
use Prim.Native.Nat.{suc, ◌+◌, ◌≤◌}
use native.Mathlib.Numerals.{add-one}
use native.Mathlib.Nat.{le_trans}
use native.Mathlib.Omega.{arith}
use lib.ListN.{length}
use Rattle.migration_rules.specs.ContractRules.{pairs_to}
use Rattle.migration_transfers.specs.Squares.{row_losses}
use Rattle.book_growth.proofs.Appending.{room-fewer, none-appended, more_appended}
use Rattle.migration_pairs.specs.Inner.{pair_of}
use Rattle.migration_pairs.proofs.Pairs.{share-by_net, net-ready, no_pairs, pairs-more, length_more, pairs-grow}
use Rattle.migration_pairs.proofs.store_pairs.Goals as goal

pub loop-j-init : goal.loop-j-init
loop-j-init c =
    let a = c.args in
    (refl, rw (no_pairs (row_losses a.base.row.now) a.base.loads.now a.base.contract) (none-appended a.form a.at a.file.now))

pub share_of-quantity-requires : goal.share_of-quantity-requires
share_of-quantity-requires c =
    let s = c in
    (s.requires.held, net-ready s.args.base.row.now s.args.base.loads.now s.args.base.contract c.loop-j.j s.args.base.ready s.requires.held (omega arith))

pub store_pair-place-requires : goal.store_pair-place-requires
store_pair-place-requires c =
    let s = c in
    let a = c.args in
    let l = c.loop-j in
    let lost = row_losses a.base.row.now in
    let q = c.share_of-quantity.result.0 in
    -- the share, by the row
    let share = share-by_net a.base.row.now a.base.loads.now a.base.contract l.j q c.share_of-quantity.ensures.0 in
    -- room for this gainer's contracts
    let room : l.place + length (pair_of a.base.contract (l.j + 1) q) ≤ a.at + length (pairs_to lost a.base.loads.now a.base.contract (length a.base.loads.now))
    = rw (add-one l.j)
    (omega (
      arith,
      length_more lost a.base.loads.now a.base.contract l.j q share,
      l.invariant.1.place,
      pairs-grow lost a.base.loads.now a.base.contract (suc l.j) (length a.base.loads.now) (omega arith),
    )) in
    record {
      quantity_bound = (le_trans room s.requires.basis.few, room-fewer a.form _ _ _ room (rw l.invariant.0 s.requires.basis.room));
      contract_fits = (s.requires.basis.fits, omega (arith, s.args.base.ready.few), c.share_of-quantity.ensures.1);
    }

pub loop-j-preserved : goal.loop-j-preserved
loop-j-preserved c =
    let l = c.loop-j in
    let h = c.share_of-quantity in
    let a = c.args in
    let lost = row_losses a.base.row.now in
    let share = share-by_net a.base.row.now a.base.loads.now a.base.contract l.j h.result.0 h.ensures.0 in (
      c.store_pair-place.auto.file ∙ l.invariant.0,
      rw (add-one l.j, pairs-more lost a.base.loads.now a.base.contract l.j h.result.0 share)
          (more_appended a.form a.at (pairs_to lost a.base.loads.now a.base.contract l.j) a.file.now l.file l.place l.invariant.1 _ _ _
          (rw (add-one l.j) at c.store_pair-place.ensures)),
    )

pub returns : goal.returns
returns c =
    let l = c.loop-j in
    let last : l.j ≡ length c.args.base.loads.now = omega arith in
    rw last at l.invariant.1
