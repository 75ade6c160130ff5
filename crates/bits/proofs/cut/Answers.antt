-- `bits::cut`.
use mathlib.Core.Path.{◌∙◌}
use Rattle.bits.proofs.Fields.{field-code}
use Rattle.bits.proofs.cut.Goals as goal

pub returns : goal.returns
returns c =
    let a = c.args in
    let r = c.requires in
    (c.part.ensures.0 ∙ field-code a.s.now a.offset a.width a.count c.window.result (λ i. (c.type_inv.s i).fits) r.0 r.1 c.window.ensures, c.part.ensures.1)
