-- `signed_like`: the sign put back.
use mathlib.Core.Path.{◌≡◌, refl, ◌∙◌}
use mathlib.Core.Bool.{true, false}
use native.Mathlib.Omega.{arith}
use lib.IntN.{pos}
use lib.Signed.{lt_z}
use mir.Syntax.{w64}
use mir.ValLaws.{to_z-of_z}
use Rattle.integers.proofs.Machine.{cast_back}
use Rattle.tariff.proofs.Rounding.{cast_minus_fits, cast_minus_is}
use Rattle.share_rules.proofs.Signs.{signed_negative, signed_positive, signed_sized}
use Rattle.share_balance.proofs.signed_like.Goals as goal

pub overflow_sub-result : goal.overflow_sub-result
overflow_sub-result c = cast_minus_fits c.args.cents (omega (arith, c.requires))

pub returns-then-balance-lt0 : goal.returns-then-balance-lt0
returns-then-balance-lt0 c =
    let a = c.args in
    let below : lt_z a.balance (pos 0) ≡ true = rw (to_z-of_z w64 a.balance c.ranges.balance) at c.if-balance-lt0.true in
    rw (cast_minus_is a.cents (omega (arith, c.requires)) ∙ signed_negative a.balance a.cents below) (refl, omega (arith, c.requires, signed_sized a.balance a.cents))

pub returns-else-balance-lt0 : goal.returns-else-balance-lt0
returns-else-balance-lt0 c =
    let a = c.args in
    let from : lt_z a.balance (pos 0) ≡ false = rw (to_z-of_z w64 a.balance c.ranges.balance) at c.if-balance-lt0.false in
    rw (cast_back a.cents (omega (arith, c.requires)) ∙ signed_positive a.balance a.cents from) (refl, omega (arith, c.requires, signed_sized a.balance a.cents))
