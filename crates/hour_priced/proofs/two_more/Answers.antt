-- `two_more`: two parts of it, behind the set.
use Prim.Native.Nat.{◌+◌, ◌*◌, ◌^◌, ◌<◌}
use native.Mathlib.Omega.{arith}
use Rattle.hour_priced.proofs.Rows.{row-part, row-front, differ_parts}
use Rattle.hour_priced.proofs.two_more.Goals as goal

pub differ-high-requires : goal.differ-high-requires
differ-high-requires c =
    (row-part c.args.factors.now c.args.a 2 c.requires.0 1 1 (omega arith), row-part c.args.factors.now c.args.b 2 c.requires.1 1 1 (omega arith))

pub differ-low-requires : goal.differ-low-requires
differ-low-requires c =
    let s = c in
    (row-front s.args.factors.now s.args.a 2 s.requires.0 1 (omega arith), row-front s.args.factors.now s.args.b 2 s.requires.1 1 (omega arith))

small : (c : goal.After-differ-low)
    → (c.args.set * 2 + c.differ-high.result) * 2 + c.differ-low.result < 2 ^ 64
small c = omega (arith, c.requires.2, c.differ-high.ensures.1, c.differ-low.ensures.1)

pub returns : goal.returns
returns c =
    let a = c.args in
    let high = c.differ-high in
    let low = c.differ-low in
    let both = differ_parts a.factors.now a.a a.b 1 1 high.result low.result high.ensures.0 low.ensures.0 in
    (omega (arith, both), omega (arith, high.ensures.1, low.ensures.1))

pub overflow_mul-result : goal.overflow_mul-result
overflow_mul-result c = omega (arith, small c)

pub overflow_add-result : goal.overflow_add-result
overflow_add-result c = omega (arith, small c)

pub overflow_mul-result-2 : goal.overflow_mul-result-2
overflow_mul-result-2 c = omega (arith, small c)

pub overflow_add-result-2 : goal.overflow_add-result-2
overflow_add-result-2 c = omega (arith, small c)
