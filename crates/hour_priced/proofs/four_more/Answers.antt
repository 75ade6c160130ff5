-- `four_more`: two parts of it, behind the set.
use mathlib.Core.Path.{refl}
use native.Mathlib.Omega.{arith}
use Rattle.hour_priced.proofs.Rows.{row-part, row-front, differ_parts}
use Rattle.hour_priced.proofs.four_more.Goals as goal

pub two_more-high-requires : goal.two_more-high-requires
two_more-high-requires c =
    let a = c.args in (
      row-part a.factors.now a.a 4 c.requires.0 2 2 (omega arith),
      row-part a.factors.now a.b 4 c.requires.1 2 2 (omega arith),
      omega (arith, c.requires.2),
    )

pub two_more-requires : goal.two_more-requires
two_more-requires c =
    let s = c in
    let a = s.args in (
      row-front a.factors.now a.a 4 s.requires.0 2 (omega arith),
      row-front a.factors.now a.b 4 s.requires.1 2 (omega arith),
      omega (arith, s.requires.2, c.two_more-high.ensures.1),
    )

pub returns : goal.returns
returns c =
    let a = c.args in
    let high = c.two_more-high in
    let low = c.two_more in
    let both = differ_parts a.factors.now a.a a.b 2 2 _ _ refl refl in
    (omega (arith, both, high.ensures.0, low.ensures.0), omega (arith, high.ensures.1, low.ensures.1))
