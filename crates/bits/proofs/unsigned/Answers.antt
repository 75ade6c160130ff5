-- `bits::unsigned`: what the machine reads back of `z` is `z`, and with a power put on its remainder is that of `of_int`.
use mathlib.Core.Path.{◌≡◌, refl, ◌∙◌, ap}
use Prim.Native.Nat.{◌^◌, ◌<◌}
use native.Mathlib.Omega.{arith}
use lib.IntN.{ℤ, pos, ◌+ℤ◌}
use mir.Syntax.{w64}
use mir.Val.{to_z, of_z}
use mir.Facts.{to_z_pos, to_z-of_z}
use Rattle.bits.proofs.SignedLaws.{raised, raised_is, raised-code, raised_lt, of_lt}
use Rattle.bits.proofs.unsigned.Goals as goal

below : (c : goal.After-power-whole) → raised c.args.width c.args.z < 2 ^ 34
below c = omega (arith, raised_lt c.args.width c.requires.le_width.0 c.args.z c.requires.z_bound)

-- the sum, as the machine makes it
is : (c : goal.After-power-whole) → to_z w64 (of_z w64 c.args.z) +ℤ to_z w64 c.power-whole.result ≡ pos (raised c.args.width c.args.z)
is c =
    let s = c in
    rw (to_z-of_z s.ranges.z, to_z_pos w64 {n = c.power-whole.result} (omega arith), c.power-whole.ensures.0)
    (raised_is s.args.width s.requires.le_width.0 s.args.z s.requires.z_bound)

back : (c : goal.After-power-whole) → to_z w64 (of_z w64 (to_z w64 (of_z w64 c.args.z) +ℤ to_z w64 c.power-whole.result)) ≡ pos (raised c.args.width c.args.z)
back c = ap (λ (z : ℤ). to_z w64 (of_z w64 z)) (is c) ∙ to_z_pos w64 (omega (arith, below c))

pub overflow_add-result : goal.overflow_add-result
overflow_add-result c = rw (is c) (record { sfits = omega (arith, below c) })

pub overflow_cast-result-2 : goal.overflow_cast-result-2
overflow_cast-result-2 c = rw (back c) (tt, record { fits = omega (arith, below c) })

pub returns : goal.returns
returns c =
    let s = c in
    rw (back c, c.power-whole.ensures.0, raised-code s.args.width s.requires.le_width.0 s.args.z s.requires.z_bound)
    (refl, of_lt s.args.width s.args.z s.requires.le_width.0 s.requires.z_bound)
