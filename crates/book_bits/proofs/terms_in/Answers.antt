-- `terms_in`.
use mathlib.Core.Path.{◌∙◌}
use Rattle.book_rules.proofs.Bytes.{terms_are}
use Rattle.book_bits.proofs.terms_in.Goals as goal

pub returns : goal.returns
returns c = let a = c.args in (c.part.ensures.0 ∙ terms_are a.width a.v, c.part.ensures.1)
