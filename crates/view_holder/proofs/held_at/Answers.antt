-- `held_at`: the holder found is the contract's.
use mathlib.Core.Path.{◌≡◌, ap, sym, ◌∙◌}
use Prim.Native.Nat.{ℕ}
use mir.Val.{bool_byte}
use lib.Dec.{eqb}
use Rattle.tariff.specs.declared.contracts.Contract.{Contract}
use Rattle.layouts.specs.BookFile.{contract_in}
use Rattle.view_holder.proofs.Rows.{held_long, bool_most}
use Rattle.view_holder.proofs.held_at.Goals as goal

pub returns : goal.returns
returns c =
    let h = c.args.holder in
    let own = contract_in c.args.contracts.form c.args.contracts.file.now c.args.i in
    let holder-is : own.holder ≡ c.holder_of.result = ap (λ (x : Contract). x.holder) c.bits_at.ensures ∙ sym c.holder_of.ensures in
    let found = c.from.ensures ∙ ap (λ (x : ℕ). bool_byte (eqb x h)) (sym holder-is) in
    (found ∙ held_long h c.args.i own, rw found (bool_most (eqb own.holder h)))
