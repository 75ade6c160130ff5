-- `write_moved`: after i turns the front of the book is there, as far as its first i contracts.
-- contract j of a book, moved
use mathlib.Core.Path.{refl, ◌∙◌}
use Prim.Native.Nat.{◌+◌}
use native.Mathlib.Omega.{arith}
use Rattle.layouts.proofs.BookFile.{record_room}
use Rattle.book_growth.proofs.Appending.{no_rows, row_appended, rows_written}
use Rattle.remap_book.proofs.write_moved.Invariants.{moved_at}
use Rattle.remap_book.proofs.write_moved.Goals as goal

pub loop-i-init : goal.loop-i-init
loop-i-init c =
    let a = c.args in
    (refl, no_rows a.contracts.form 0 (moved_at a.ends.now a.contracts) _ 0 refl)

pub moved_contract-requires : goal.moved_contract-requires
moved_contract-requires c = record { i_bound = omega arith; movable = c.requires.by_index c.loop-i.i (omega arith) }

pub store_contract-requires : goal.store_contract-requires
store_contract-requires c =
    let a = c.args in
    let l = c.loop-i in
    let room = record_room a.contracts.form l.i a.contracts.count _ (omega arith) c.requires.count_in_bounds in
    record {
      i_bound = (omega arith, omega (arith, room, l.invariant.0, c.store_header.auto.file));
      contract_fits = rw c.moved_contract.ensures (c.requires.by_index l.i (omega arith)).fits;
    }

pub loop-i-preserved : goal.loop-i-preserved
loop-i-preserved c =
    let a = c.args in
    let l = c.loop-i in
    let stored = c.store_contract in (
      stored.auto.file ∙ l.invariant.0,
      row_appended a.contracts.form 0 (moved_at a.ends.now a.contracts) _ l.file _ l.i l.i (l.i + 1) refl l.invariant.1
          (rw (← c.moved_contract.ensures) stored.ensures),
    )

pub shape_of-file : goal.shape_of-file
shape_of-file c = c.loop-i.invariant.0 ∙ c.store_header.auto.file

pub returns : goal.returns
returns c =
    let l = c.loop-i in
    let a = c.args in
    rows_written a.contracts.form a.contracts.count (moved_at a.ends.now a.contracts) a.file.now _ l.file l.i
    (rw c.len.ensures.0 at c.store_header.ensures) l.invariant.1 (omega arith) (λ i h. (c.requires.by_index i h).fits)
