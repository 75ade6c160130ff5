-- `bits_at`: eight bytes in either form, by one law.
use Prim.Native.Nat.{◌+◌, ◌*◌, ◌≤◌}
use native.Mathlib.Omega.{arith}
use lib.ListN.{length}
use Rattle.layouts.specs.declared.forms.Form.TheVariants.{Narrow, Wide}
use Rattle.layouts.proofs.ContractNumber.{contract-in_number}
use Rattle.book_bits.proofs.bits_at.Goals as goal

pub window8-requires : goal.window8-requires
window8-requires c =
    let s = c in
    let room : 2 + 6 * s.args.i + 6 ≤ length s.args.file.now = rw c.in-Narrow.is at s.requires.1 in
    omega arith

pub window8-requires-in-Wide : goal.window8-requires-in-Wide
window8-requires-in-Wide c =
    let s = c in
    let room : 2 + 7 * s.args.i + 7 ≤ length s.args.file.now = rw c.in-Wide.is at s.requires.1 in
    omega arith

pub returns-in-Narrow : goal.returns-in-Narrow
returns-in-Narrow c =
    let e = c in
    let s = e in
    rw e.in-Narrow.is
    (contract-in_number Narrow s.args.file.now s.args.i (6 * s.args.i) c.window8.result (λ i. (c.type_inv.file i).fits) (omega arith)
    (rw e.in-Narrow.is at s.requires.1) c.window8.ensures)

pub returns-in-Wide : goal.returns-in-Wide
returns-in-Wide c =
    let e = c in
    let s = e in
    rw e.in-Wide.is
    (contract-in_number Wide s.args.file.now s.args.i (1 + 7 * s.args.i) c.window8-in-Wide.result (λ i. (c.type_inv.file i).fits) (omega arith)
    (rw e.in-Wide.is at s.requires.1) c.window8-in-Wide.ensures)
