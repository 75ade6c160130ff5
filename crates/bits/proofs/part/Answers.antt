-- `bits::part`: the shifted power is exact, so the remainder is that by the width.
use mathlib.Core.Path.{refl}
use native.Mathlib.Nat.{mod-lt}
use lib.Pow.{pow_pos}
use Rattle.bits.proofs.Numbers.{one_shl}
use Rattle.bits.proofs.part.Goals as goal

pub nonzero_rem-result : goal.nonzero_rem-result
nonzero_rem-result c = rw (one_shl c.args.width c.requires.1) (pow_pos c.args.width)

pub returns : goal.returns
returns c = rw (one_shl c.args.width c.requires.1) (refl, mod-lt _ (pow_pos c.args.width))
