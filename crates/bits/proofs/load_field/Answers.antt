-- `bits::load_field`.
use mathlib.Core.Path.{◌∙◌}
use Rattle.bits.proofs.Fields.{late_code}
use Rattle.bits.proofs.load_field.Goals as goal

pub returns : goal.returns
returns c =
    let a = c.args in
    let r = c.requires in
    let w = c.window8 in
    (c.part.ensures.0 ∙ late_code a.s.now a.offset a.width w.result (λ i. (c.type_inv.s i).fits) r.bound.0 r.bound.1 r.offset_bound.2 w.ensures, c.part.ensures.1)
