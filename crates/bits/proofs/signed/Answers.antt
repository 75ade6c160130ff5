-- `bits::signed`: with half a power put on and taken off the integer is that of `to_int`.
use mathlib.Core.Path.{◌≡◌}
use Prim.Native.Nat.{◌+◌, ◌%◌, ◌<◌}
use native.Mathlib.Nat.{mod-lt}
use native.Mathlib.Omega.{arith}
use lib.IntN.{◌-ℤ◌}
use mir.Syntax.{w64}
use mir.Val.{SFits, to_z}
use mir.Facts.{to_z_pos, to_z-of_z}
use Rattle.bits.specs.Signed.{to_int}
use Rattle.bits.proofs.SignedLaws.{code_to, to_fits}
use Rattle.bits.proofs.signed.Goals as goal

below : (c : goal.After-power-half) → (c.args.v + c.power-half.result) % c.power-whole.result < c.power-whole.result
below c = mod-lt _ c.power-whole.ensures.1

-- the difference, as the machine makes it
is : (c : goal.After-power-half)
    → to_z w64 ((c.args.v + c.power-half.result) % c.power-whole.result) -ℤ to_z w64 c.power-half.result ≡ to_int c.args.width c.args.v
is c =
    let s = c in
    rw (
      to_z_pos w64 {n = (s.args.v + c.power-half.result) % c.power-whole.result} (omega (arith, below c)),
      to_z_pos w64 {n = c.power-half.result} (omega arith),
      c.power-whole.ensures.0,
    )
    (code_to s.args.width s.args.v _ s.requires.le_width.0 s.requires.v_bound c.power-half.ensures.0)

fits : (c : goal.After-power-half) → SFits w64 (to_int c.args.width c.args.v)
fits c = to_fits c.args.width c.args.v (omega arith) c.requires.v_bound

pub overflow_cast-result : goal.overflow_cast-result
overflow_cast-result c = record { sfits = omega (arith, below c) }

pub overflow_sub-result : goal.overflow_sub-result
overflow_sub-result c = rw (is c) (fits c)

pub returns : goal.returns
returns c = rw (is c) (to_z-of_z {w = w64} (fits c))
