-- `write_anonymous`: after i turns the front of the view is there, as far as its first i contracts.
use mathlib.Core.Path.{◌≡◌, refl, ap, sym, ◌∙◌}
use Prim.Native.Nat.{◌+◌}
use native.Mathlib.Omega.{arith}
use Rattle.tariff.specs.declared.contracts.Contract.{Contract}
use Rattle.layouts.proofs.BookFile.{record_room, contract-in_fits}
use Rattle.book_rules.specs.Inner.{contract_bytes, bits_bytes}
use Rattle.view_rules.specs.Views.{anonymous}
use Rattle.view_rules.proofs.Market.{anonymous-fits}
use Rattle.view_market.proofs.Clearing.{cleared_bytes}
use Rattle.book_growth.proofs.Appending.{no_rows, row_appended, rows_written}
use Rattle.view_market.proofs.write_anonymous.Invariants.{row_at}
use Rattle.view_market.proofs.write_anonymous.Goals as goal

pub loop-i-init : goal.loop-i-init
loop-i-init c =
    let a = c.args in
    (refl, no_rows a.contracts.form 0 (row_at a.contracts) _ 0 refl)

pub store_bits-requires : goal.store_bits-requires
store_bits-requires c =
    let a = c.args in
    let l = c.loop-i in
    let room = record_room a.contracts.form l.i a.contracts.count _ (omega arith) c.requires in
    (omega arith, omega (arith, room, l.invariant.0, c.store_header.auto.file))

pub loop-i-preserved : goal.loop-i-preserved
loop-i-preserved c =
    let stored = c.store_bits in
    let l = c.loop-i in
    let cs = c.args.contracts in
    let g = row_at cs in
    let bytes : contract_bytes cs.form (g l.i) ≡ bits_bytes cs.form c.cleared.result
    = ap (λ (x : Contract). contract_bytes cs.form (anonymous x)) c.bits_at.ensures ∙ cleared_bytes cs.form c.bits_at.result
    ∙ ap (bits_bytes cs.form) (sym c.cleared.ensures) in (
      stored.auto.file ∙ l.invariant.0,
      row_appended cs.form 0 g _ l.file _ l.i l.i (l.i + 1) refl l.invariant.1 (rw bytes stored.ensures),
    )

pub returns : goal.returns
returns c =
    let l = c.loop-i in
    let a = c.args in
    rows_written a.contracts.form a.contracts.count (row_at a.contracts) a.file.now _ l.file l.i
    (rw c.len.ensures.0 at c.store_header.ensures) l.invariant.1 (omega arith)
    (λ i h. anonymous-fits _ _ (contract-in_fits a.contracts.form a.contracts.file.now i))

pub shape_of-file : goal.shape_of-file
shape_of-file c = c.loop-i.invariant.0 ∙ c.store_header.auto.file
