-- `write_factors`: what was written before, and then the factors passed. The bytes behind the writer are as they were.
use mathlib.Core.List.{map}
use mathlib.Core.Path.{◌≡◌, sym, ap, ◌∙◌}
use native.Mathlib.Omega.{arith}
use lib.ListN.{get_or, length-map, get_or-map}
use lib.IntN.{pos}
use borrow.Author.Rules.{rules}
use mir.Syntax.{w64}
use mir.Val.{to_z, of_z}
use mir.ValLaws.{to_z-of_z}
use Rattle.bits.specs.Signed.{of_int}
use Rattle.bits.specs.Inner.{written}
use Rattle.bits.proofs.Writing.{goes_on, run_turn}
use Rattle.layouts.specs.GridFile.{factor_width}
use Rattle.grid_writing.proofs.write_factors.Goals as goal

pub loop-factor-preserved : goal.loop-factor-preserved
loop-factor-preserved c =
    let a = c.args in
    let l = c.loop-factor in
    let e = c.put-writer.ensures in
    let fs = a.factors.now in
    let i = l.factor-index in
    let z = get_or fs i (pos 0) in
    let same : to_z w64 (of_z w64 z) ≡ z = to_z-of_z w64 z (search rules) in
    let v = c.unsigned.ensures.0 ∙ ap (of_int factor_width) same ∙ sym (get_or-map (of_int factor_width) fs i (pos 0)) in (
      omega (arith, e.result_value_2),
      run_turn factor_width (map (of_int factor_width) fs) (written a.buf.now a.from) i c.unsigned.result (written l.buf l.writer) _
          (rw (length-map fs (of_int factor_width)) (omega arith)) v l.invariant.1 e.result_value,
      goes_on l.invariant.2 e.writes_on,
    )
