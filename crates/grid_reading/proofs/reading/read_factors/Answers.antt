-- `read_factors`: the cells passed hold the factors passed.
use mathlib.Core.Path.{refl, sym, ◌∙◌}
use native.Mathlib.Omega.{arith}
use lib.ListN.{length}
use lib.Seq.{take_all}
use mir.Syntax.{w64}
use mir.ValLaws.{to_z-of_z}
use Rattle.bits.specs.Signed.{to_int}
use Rattle.lists.proofs.Fill.{fill_turn}
use Rattle.layouts.specs.GridFile.{factor_width}
use Rattle.grid_rules.specs.Inner.{factors_at}
use Rattle.grid_rules.proofs.Factors.{length_run, factor-at}
use Rattle.grid_reading.proofs.reading.read_factors.Goals as goal

pub loop-i-preserved : goal.loop-i-preserved
loop-i-preserved c =
    let a = c.args in
    let i = c.loop-i.i in
    let n = length a.out.now in
    let read = factor-at a.file.now a.offset n i _ _ (omega arith) c.requires.run_bound refl c.load_field.ensures.0 in
    let v = to_z-of_z w64 _ (record { sfits = c.signed.type_inv }) ∙ c.signed.ensures ∙ read in
    fill_turn (factors_at a.file.now a.offset n) c.loop-i.out i c.loop-i.invariant _ (to_int factor_width 0) (omega arith) (rw length_run (omega arith)) v

pub returns : goal.returns
returns c =
    let a = c.args in
    let run = factors_at a.file.now a.offset (length a.out.now) in
    let i = c.loop-i.i in
    sym (take_all i c.loop-i.out (omega arith)) ∙ c.loop-i.invariant ∙ take_all i run (rw length_run (omega arith))
