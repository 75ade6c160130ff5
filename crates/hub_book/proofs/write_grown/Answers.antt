-- `write_grown`: after i rows the front of the grown book is there, as far as its first i rows.
use mathlib.Core.Path.{refl, ap, ◌∙◌}
use mathlib.Core.List.{◌++◌}
use Prim.Native.Nat.{ℕ, ◌+◌}
use native.Mathlib.Omega.{arith}
use lib.ListN.{length}
use Rattle.lists.specs.Lists.{list_to}
use Rattle.lists.specs.Lent.{overwrite}
use Rattle.layouts.specs.BookFile.{book_in}
use Rattle.layouts.proofs.BookFile.{record_room, length-book_in}
use Rattle.book_rules.specs.Inner.{book_front}
use Rattle.book_growth.proofs.Appending.{room-fewer, no_rows, row_appended}
use Rattle.hub_book.specs.Inner.{row_contract}
use Rattle.hub_book.proofs.write_grown.Goals as goal

pub overflow_add-count : goal.overflow_add-count
overflow_add-count c = omega (arith, c.requires.room.few)

pub keep_contracts-requires : goal.keep_contracts-requires
keep_contracts-requires c =
    let s = c in
    let size = s.requires.whole.0.size in
    let room = room-fewer s.args.contracts.form s.args.contracts.count (s.args.contracts.count + s.args.made) _ (omega arith) s.requires.room.bytes in
    (s.requires.whole.0, omega (arith, s.requires.room.few), omega (arith, rw s.requires.whole.1 at size, room))

pub loop-i-init : goal.loop-i-init
loop-i-init c =
    let a = c.args in
    (refl, no_rows a.contracts.form a.contracts.count (row_contract a.terms a.sources.now a.quantities.now) _ (a.contracts.count + 0) (omega arith))

pub row_at-c-requires : goal.row_at-c-requires
row_at-c-requires c =
    let p = c.requires.room in
    (omega (arith, p.source-cells), omega (arith, p.quantity-cells))

pub overflow_add-count-in-loop-i : goal.overflow_add-count-in-loop-i
overflow_add-count-in-loop-i c = omega (arith, c.requires.room.few)

pub store_contract-requires : goal.store_contract-requires
store_contract-requires c =
    let s = c in
    let a = s.args in
    let l = c.loop-i in
    let kept = c.keep_contracts.auto.file in
    let room = record_room a.contracts.form (a.contracts.count + l.i) (a.contracts.count + a.made) (length a.file.now) (omega arith) s.requires.room.bytes in record { i_bound = (omega (arith, s.requires.room.few), omega (arith, room, l.invariant.0, kept)); contract_fits = rw c.row_at-c.ensures (s.requires.room.fits l.i (omega arith)) }

pub loop-i-preserved : goal.loop-i-preserved
loop-i-preserved c =
    let s = c in
    let a = s.args in
    let l = c.loop-i in
    let stored = c.store_contract in (
      stored.auto.file ∙ l.invariant.0,
      row_appended a.contracts.form a.contracts.count (row_contract a.terms a.sources.now a.quantities.now) _ l.file _ l.i (a.contracts.count + l.i)
          (a.contracts.count + (l.i + 1)) (omega arith) l.invariant.1 (rw (← c.row_at-c.ensures) stored.ensures),
    )

pub shape_of-file : goal.shape_of-file
shape_of-file c = c.loop-i.invariant.0 ∙ c.keep_contracts.auto.file

pub returns : goal.returns
returns c =
    let s = c in
    let a = s.args in
    let l = c.loop-i in
    let row = row_contract a.terms a.sources.now a.quantities.now in
    l.invariant.1.front (a.contracts.count + a.made) a.file.now (book_in a.contracts.file.now) (length-book_in a.contracts.file.now ∙ s.requires.whole.1)
    c.keep_contracts.ensures
    ∙ ap (λ (n : ℕ). overwrite (book_front a.contracts.form (a.contracts.count + a.made) (book_in a.contracts.file.now ++ list_to n row)) a.file.now) (omega arith)
