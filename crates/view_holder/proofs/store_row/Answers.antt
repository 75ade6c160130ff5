-- `store_row`: the number's two bytes, then the contract's behind them.
use Prim.Native.Nat.{◌+◌, ◌≤◌}
use native.Mathlib.Omega.{arith}
use lib.ListN.{length}
use Rattle.view_holder.proofs.Rows.{number-and_bits}
use Rattle.view_holder.proofs.store_row.Goals as goal

pub store6-requires : goal.store6-requires
store6-requires c =
    let room : c.args.at + 2 ≤ length c.args.view.now = omega (arith, c.requires) in
    let room = rw c.in-Narrow.is at c.requires in
    omega (arith, room, c.store2.auto.buf)

pub store7-requires : goal.store7-requires
store7-requires c =
    let room : c.args.at + 2 ≤ length c.args.view.now = omega (arith, c.requires) in
    let room = rw c.in-Wide.is at c.requires in
    omega (arith, room, c.store2.auto.buf)

pub returns-in-Narrow : goal.returns-in-Narrow
returns-in-Narrow c =
    let room : c.args.at + 2 ≤ length c.args.view.now = omega (arith, c.requires) in
    rw c.in-Narrow.is (number-and_bits 6 _ _ _ _ _ _ room c.store2.ensures c.store6.ensures)

pub returns-in-Wide : goal.returns-in-Wide
returns-in-Wide c =
    let room : c.args.at + 2 ≤ length c.args.view.now = omega (arith, c.requires) in
    rw c.in-Wide.is (number-and_bits 7 _ _ _ _ _ _ room c.store2.ensures c.store7.ensures)
