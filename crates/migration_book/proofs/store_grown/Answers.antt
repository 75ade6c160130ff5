-- `store_grown`: after i turns what follows the first i contracts is stored.
use mathlib.Core.Path.{◌≡◌, refl, ◌∙◌}
use Prim.Native.Nat.{◌+◌, ◌≤◌}
use native.Mathlib.Nat.{le_trans}
use native.Mathlib.Omega.{arith}
use lib.ListN.{length}
use Rattle.lists.proofs.Lists.{length-list_to}
use Rattle.layouts.specs.BookFile.{contract_in}
use Rattle.layouts.proofs.BookFile.{contract-in_fits}
use Rattle.migration_rules.specs.ContractRules.{new_from}
use Rattle.migration_transfers.specs.Squares.{lost_in}
use Rattle.book_growth.proofs.Appending.{room-fewer, none-appended, more_appended}
use Rattle.migration_pairs.proofs.Pairs.{new-by_row}
use Rattle.migration_book.specs.Inner.{new_to}
use Rattle.migration_book.proofs.Growing.{none-new, new-more, length_more, new-grow}
use Rattle.migration_book.proofs.store_grown.Goals as goal

pub loop-i-init : goal.loop-i-init
loop-i-init c =
    let a = c.args in
    (refl, rw (none-new a.migration.contracts.form a.migration.contracts.file.now a.migration.period a.square a.migration.loads.now) (none-appended a.migration.contracts.form a.migration.contracts.count a.file.now))

-- room for what follows this contract
room : (c : goal.After-store_new-arg-in-loop-i-1) → let a = c.args in
    let l = c.loop-i in
    l.place + length (new_from (lost_in a.square) a.migration.loads.now a.migration.period (contract_in a.migration.contracts.form a.migration.contracts.file.now l.i))
    ≤ a.migration.contracts.count + length (new_to a.migration.contracts.form a.migration.contracts.file.now a.migration.period a.square a.migration.loads.now a.migration.contracts.count)
room c =
    let a = c.args in
    let l = c.loop-i in
    omega (
      arith,
      length_more a.migration.contracts.form a.migration.contracts.file.now a.migration.period a.square a.migration.loads.now l.i,
      l.invariant.1.place,
      new-grow a.migration.contracts.form a.migration.contracts.file.now a.migration.period a.square a.migration.loads.now (l.i + 1) a.migration.contracts.count (omega arith),
    )

pub store_new-place-requires : goal.store_new-place-requires
store_new-place-requires c =
    let l = c.loop-i in
    let s = c in
    let m = s.args.migration in
    let p = c.row_of in
    let k = c.at-contract in
    let old = length-list_to m.contracts.count (contract_in m.contracts.form m.contracts.file.now) in
    rw (new-by_row s.args.square m.loads.now s.requires.ready k.result p.result p.ensures.1 m.period, k.ensures) (record {
      quantity-most = m.readable.quantities l.i (omega arith);
      fits = contract-in_fits m.contracts.form m.contracts.file.now l.i;
      few = le_trans (room c) (rw old at s.requires.roomy.few);
      room = room-fewer m.contracts.form _ _ _ (room c) (rw l.invariant.0 (rw old at s.requires.roomy.room));
    })

pub loop-i-preserved : goal.loop-i-preserved
loop-i-preserved c =
    let w = c in
    let p = w.row_of in
    let k = w in
    let l = k.loop-i in
    let s = k in
    let a = s.args in
    let same = new-by_row a.square a.migration.loads.now s.requires.ready k.at-contract.result p.result p.ensures.1 a.migration.period in (
      w.store_new-place.auto.file ∙ l.invariant.0,
      rw (new-more a.migration.contracts.form a.migration.contracts.file.now a.migration.period a.square a.migration.loads.now l.i)
          (more_appended a.migration.contracts.form a.migration.contracts.count (new_to a.migration.contracts.form a.migration.contracts.file.now a.migration.period a.square a.migration.loads.now l.i) a.file.now l.file l.place
          l.invariant.1 _ _ _
          (rw (same, k.at-contract.ensures) at w.store_new-place.ensures)),
    )

pub shape_of-file : goal.shape_of-file
shape_of-file c = c.loop-i.invariant.0

pub returns : goal.returns
returns c =
    let l = c.loop-i in
    let last : l.i ≡ c.args.migration.contracts.count = omega arith in
    rw last at l.invariant.1
