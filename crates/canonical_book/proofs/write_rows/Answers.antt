-- `write_rows`: after i turns the front of the book is there, as far as its first i rows.
-- row j
use mathlib.Core.Path.{refl, ◌∙◌}
use Prim.Native.Nat.{ℕ, ◌+◌, ◌<◌}
use native.Mathlib.Omega.{arith}
use lib.ListN.{length}
use Rattle.layouts.specs.Forms.{end_width}
use Rattle.layouts.specs.BookTable.{ContractFits}
use Rattle.layouts.proofs.BookFile.{record_room}
use Rattle.canonical_book.proofs.Unpacking.{contract-back}
use Rattle.book_growth.proofs.Appending.{no_rows, row_appended, rows_written}
use Rattle.canonical_book.proofs.write_rows.Invariants.{row_at}
use Rattle.canonical_book.proofs.write_rows.Goals as goal

pub loop-i-init : goal.loop-i-init
loop-i-init c =
    let a = c.args in
    (refl, no_rows a.form 0 (row_at a.rows.now) _ 0 refl)

pub store_row-requires : goal.store_row-requires
store_row-requires c =
    let l = c.loop-i in
    let s = c in
    let room = record_room s.args.form l.i (length s.args.rows.now) _ (omega arith) s.requires.rows_le_max_contracts.1 in
    (omega arith, omega (arith, room, l.invariant.0, c.store_header.auto.file), s.requires.by_index l.i (omega arith))

pub loop-i-preserved : goal.loop-i-preserved
loop-i-preserved c =
    let s = c in
    let a = s.args in
    let l = s.loop-i in
    let stored = c.store_row in (
      stored.auto.file ∙ l.invariant.0,
      row_appended a.form 0 (row_at a.rows.now) _ l.file _ l.i l.i (l.i + 1) refl l.invariant.1 stored.ensures,
    )

pub shape_of-file : goal.shape_of-file
shape_of-file c = c.loop-i.invariant.0 ∙ c.store_header.auto.file

pub returns : goal.returns
returns c =
    let l = c.loop-i in
    let s = c in
    let a = s.args in
    let fits : (i : ℕ) → i < length a.rows.now → ContractFits (end_width a.form) (row_at a.rows.now i)
    = λ i h. let row = s.requires.by_index i h in rw (contract-back a.form row.of row.fits _ row.is) row.fits in
    rows_written a.form (length a.rows.now) (row_at a.rows.now) a.file.now _ l.file l.i c.store_header.ensures
    l.invariant.1 (omega arith) fits
