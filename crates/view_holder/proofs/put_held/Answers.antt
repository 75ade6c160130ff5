-- `put_held`: nothing, or one row.
-- the row of a contract that the holder has
use mathlib.Core.Path.{◌≡◌, ap, sym, ◌∙◌}
use mathlib.Core.List.{[]}
use native.Mathlib.Omega.{arith}
use lib.ListN.{length}
use Rattle.tariff.specs.declared.contracts.Contract.{Contract}
use Rattle.view_holder.specs.Inner.{stored_row, rows_at}
use Rattle.view_holder.proofs.Rows.{nothing_put, rows-held, rows_none, length-stored}
use Rattle.view_holder.proofs.put_held.Goals as goal

pub returns-then-holder_of-holder : goal.returns-then-holder_of-holder
returns-then-holder_of-holder c =
    let a = c.args in
    let none : rows_at a.contracts.form a.holder a.contracts.file.now a.i ≡ []
    = rows_none a.contracts.form a.holder a.contracts.file.now a.i (λ e. c.if-holder_of-holder.true (c.holder_of.ensures ∙ sym (ap (λ (x : Contract). x.holder) c.bits_at-own.ensures) ∙ e)) in record { view_value = nothing_put a.view.now _ a.at none; value = omega (arith, ap length none) }

pub store_row-requires : goal.store_row-requires
store_row-requires c =
    let row-there : rows_at c.args.contracts.form c.args.holder c.args.contracts.file.now c.args.i ≡ stored_row c.args.contracts.form c.args.i c.bits_at-own.result = let h = c in rows-held _ _ _ _ _ h.bits_at-own.ensures (sym h.holder_of.ensures ∙ c.if-holder_of-holder.false) in
    omega (arith, c.requires.i_in_bounds, ap length row-there, length-stored c.args.contracts.form c.args.i c.bits_at-own.result)

pub returns : goal.returns
returns c =
    let row-there : rows_at c.args.contracts.form c.args.holder c.args.contracts.file.now c.args.i ≡ stored_row c.args.contracts.form c.args.i c.bits_at-own.result = let h = c in rows-held _ _ _ _ _ h.bits_at-own.ensures (sym h.holder_of.ensures ∙ c.if-holder_of-holder.false) in
    let a = c.args in
    let size = length-stored a.contracts.form a.i c.bits_at-own.result in record { view_value = rw (row-there, c.row_bytes.ensures.0) c.store_row.ensures; value = rw row-there (omega (arith, size, c.row_bytes.ensures.0)) }
