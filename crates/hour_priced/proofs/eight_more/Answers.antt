-- `eight_more`: two parts of it, behind the set.
use mathlib.Core.Path.{refl}
use native.Mathlib.Omega.{arith}
use Rattle.hour_priced.proofs.Rows.{row-part, row-front, differ_parts}
use Rattle.hour_priced.proofs.eight_more.Goals as goal

pub four_more-high-requires : goal.four_more-high-requires
four_more-high-requires c =
    let a = c.args in (
      row-part a.factors.now a.a 8 c.requires.0 4 4 (omega arith),
      row-part a.factors.now a.b 8 c.requires.1 4 4 (omega arith),
      omega (arith, c.requires.2),
    )

pub four_more-requires : goal.four_more-requires
four_more-requires c =
    let s = c in
    let a = s.args in (
      row-front a.factors.now a.a 8 s.requires.0 4 (omega arith),
      row-front a.factors.now a.b 8 s.requires.1 4 (omega arith),
      omega (arith, s.requires.2, c.four_more-high.ensures.1),
    )

pub returns : goal.returns
returns c =
    let a = c.args in
    let high = c.four_more-high in
    let low = c.four_more in
    let both = differ_parts a.factors.now a.a a.b 4 4 _ _ refl refl in
    omega (arith, both, high.ensures.0, low.ensures.0)
