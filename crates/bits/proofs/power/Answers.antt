-- `bits::power`: the shift is exact.
use mathlib.Core.Path.{refl}
use native.Mathlib.Omega.{arith}
use lib.Pow.{pow_mono, pow_pos}
use Rattle.bits.proofs.Numbers.{one_shl}
use Rattle.bits.proofs.power.Goals as goal

pub returns : goal.returns
returns c = rw (one_shl c.args.k (omega arith)) (refl, pow_pos c.args.k, pow_mono c.requires)
