-- `write_held`: after i turns the rows of the first i contracts are at the front.
use mathlib.Core.Path.{◌≡◌, refl, ap, sym, ◌∙◌}
use Prim.Native.Nat.{◌+◌}
use native.Mathlib.Omega.{arith}
use lib.ListN.{length, length-append}
use Rattle.lists.proofs.Blocks.{block-stored}
use Rattle.view_holder.specs.Inner.{rows_at, rows_to}
use Rattle.view_holder.proofs.Rows.{rows-begin, rows_more, rows-rise}
use Rattle.view_holder.proofs.write_held.Goals as goal

pub loop-i-init : goal.loop-i-init
loop-i-init c = (refl, rw rows-begin refl, rw rows-begin refl)

pub put_held-at-requires : goal.put_held-at-requires
put_held-at-requires c =
    let l = c.loop-i in
    let a = c.args in
    let f = a.contracts.form in
    let h = a.holder in
    let book = a.contracts.file.now in
    let more : length (rows_to f h book (l.i + 1)) ≡ length (rows_to f h book l.i) + length (rows_at f h book l.i)
    = ap length (rows_more f h book l.i) ∙ length-append (rows_to f h book l.i) (rows_at f h book l.i) in
    let most = rows-rise f h book (l.i + 1) a.contracts.count (omega arith) in
    record { i_bound = omega arith; i_in_bounds = omega (arith, more, most, c.requires, l.invariant.0, l.invariant.1) }

pub loop-i-preserved : goal.loop-i-preserved
loop-i-preserved c =
    let p = c.put_held-at in
    let h = c in
    let l = h.loop-i in
    let a = h.args in
    let old = rows_to a.contracts.form a.holder a.contracts.file.now l.i in
    let row = rows_at a.contracts.form a.holder a.contracts.file.now l.i in
    let more = rows_more a.contracts.form a.holder a.contracts.file.now l.i in (
      p.auto.view ∙ l.invariant.0,
      rw (more, length-append old row) (omega (arith, l.invariant.1, p.ensures.value)),
      rw more (block-stored old row a.view.now l.view _ l.at p.result (sym l.invariant.1) (sym p.ensures.value) l.invariant.2 p.ensures.view_value),
    )

pub shape_of-view : goal.shape_of-view
shape_of-view c = c.loop-i.invariant.0

pub returns : goal.returns
returns c =
    let l = c.loop-i in
    let last : l.i ≡ c.args.contracts.count = omega arith in record { view_value = rw last at l.invariant.2; value = rw last at l.invariant.1 }
