-- `write_contracts`: after i turns the front of the book is there, as far as its first i contracts, in the place that the header was stored in.
use mathlib.Core.Path.{refl, ◌∙◌}
use Prim.Native.Nat.{◌+◌}
use native.Mathlib.Omega.{arith}
use Rattle.layouts.proofs.BookFile.{record_room}
use Rattle.layouts.specs.BookTable.{row_at}
use Rattle.book_growth.proofs.Appending.{no_rows, row_appended, rows_written}
use Rattle.book_writing.proofs.write_contracts.Goals as goal

pub loop-i-init : goal.loop-i-init
loop-i-init c =
    let a = c.args in
    (refl, no_rows a.form 0 (row_at a.cells.now) _ 0 refl)

pub row_number-v-requires : goal.row_number-v-requires
row_number-v-requires c =
    let l = c.loop-i in
    let s = c in record { contract_cells_in_bounds = omega (arith, s.requires.contracts_le_max_contracts.1); row_fits = s.requires.by_index l.i (omega arith) }

pub store_bits-requires : goal.store_bits-requires
store_bits-requires c =
    let l = c.loop-i in
    let s = c in
    let room = record_room s.args.form l.i s.args.contracts _ (omega arith) s.requires.contracts_le_max_contracts.2 in
    (omega arith, omega (arith, room, l.invariant.0, c.store_header.auto.file))

pub loop-i-preserved : goal.loop-i-preserved
loop-i-preserved c =
    let s = c in
    let a = s.args in
    let l = s.loop-i in
    let stored = c.store_bits in (
      stored.auto.file ∙ l.invariant.0,
      row_appended a.form 0 (row_at a.cells.now) _ l.file _ l.i l.i (l.i + 1) refl l.invariant.1
          (rw c.row_number-v.ensures stored.ensures),
    )

pub shape_of-file : goal.shape_of-file
shape_of-file c = c.loop-i.invariant.0 ∙ c.store_header.auto.file

pub returns : goal.returns
returns c =
    let l = c.loop-i in
    let s = c in
    rows_written s.args.form s.args.contracts (row_at s.args.cells.now) s.args.file.now _ l.file l.i
    c.store_header.ensures l.invariant.1
    (omega arith) (λ i h. (s.requires.by_index i h).fits)
