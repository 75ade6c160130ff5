-- `bits::field`: where fewer than five bytes are left, those.
use mathlib.Core.Path.{◌∙◌}
use Prim.Native.Nat.{◌-◌, ◌/◌}
use native.Mathlib.Omega.{arith}
use lib.ListN.{length}
use Rattle.bits.proofs.Fields.{field-code}
use Rattle.bits.proofs.field.Goals as goal

pub returns-then-left-lt5 : goal.returns-then-left-lt5
returns-then-left-lt5 c =
    let a = c.args in
    let left = length a.s.now - a.offset / 8 in
    let g = c.gather in
    (c.part.ensures.0 ∙ field-code a.s.now a.offset a.width left g.result (λ i. (c.type_inv.s i).fits) (omega arith) (omega arith) g.ensures, c.part.ensures.1)
