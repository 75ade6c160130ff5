-- `held_count`: after i turns, how many of the first i.
use mathlib.Core.Path.{◌≡◌, sym}
use native.Mathlib.Omega.{arith}
use Rattle.layouts.specs.BookFile.{contract_in}
use Rattle.view_holder.proofs.Rows.{held_begin, held_more}
use Rattle.view_holder.proofs.held_count.Goals as goal

pub loop-i-init : goal.loop-i-init
loop-i-init c = (omega arith, sym (held_begin _ _))

pub loop-i-preserved : goal.loop-i-preserved
loop-i-preserved c =
    let l = c.loop-i in
    let a = c.args in
    (omega (arith, c.held_at-held.ensures.1), omega (arith, l.invariant.1, c.held_at-held.ensures.0, held_more a.holder (contract_in a.contracts.form a.contracts.file.now) l.i))

pub returns : goal.returns
returns c =
    let l = c.loop-i in
    let last : l.i ≡ c.args.contracts.count = omega arith in
    (rw last at l.invariant.1, omega arith)
