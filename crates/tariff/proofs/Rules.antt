-- An option never relieves a constraint.
use mathlib.Core.Path.{◌≡◌}
use Prim.Native.Nat.{ℕ}
use native.Mathlib.Nat.{le-max_right}
use native.Mathlib.Omega.{arith}
use lib.IntN.{ℤ, pos, ◌-ℤ◌, ◌*ℤ◌}
use lib.Signed.{◌≤ℤ◌}
use Rattle.integers.specs.Sums.{max0}
use Rattle.integers.proofs.Linear.{⊖of, ⊖s, above, below}
use Rattle.tariff.specs.declared.contracts.Kind.TheVariants.{Option}
use Rattle.tariff.specs.declared.contracts.Contract.{Contract}
use Rattle.tariff.specs.Units.{Factors, factor}
use Rattle.tariff.specs.Feasibility.{flow}

max0≥0 : (x : ℤ) → pos 0 ≤ℤ max0 x
max0≥0 x = rw (⊖of x) (simp ⊖s (omega (arith, le-max_right (above x) (below x))))

pub option_never_relieves : (f : Factors) (c : Contract) → c.kind ≡ Option → (k : ℕ) → pos 0 ≤ℤ flow f c k
unfolding flow
option_never_relieves f c e k = rw e (max0≥0 ((factor f c.source k -ℤ factor f c.sink k) *ℤ pos c.quantity.0))
