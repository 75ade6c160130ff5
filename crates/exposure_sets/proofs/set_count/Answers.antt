-- `set_count`: the shift is exact.
use mathlib.Core.Path.{refl}
use native.Mathlib.Omega.{arith}
use lib.Pow.{pow_mono, pow_pos}
use Rattle.bits.proofs.Numbers.{one_shl}
use Rattle.exposure_sets.proofs.set_count.Goals as goal

pub returns : goal.returns
returns c = rw (one_shl c.args.count (omega arith)) (refl, pow_pos c.args.count, pow_mono c.requires)
