-- The spread of two shift factors.
use Prim.Native.Nat.{◌*◌, ◌≤◌}
use native.Mathlib.Omega.{arith}
use lib.IntN.{ℤ, nat_abs, ◌-ℤ◌}
use Rattle.integers.proofs.Sizes.{nat_abs_sub}
use Rattle.tariff.specs.Units.{max_factor}

module _ (x y : ℤ) (hx : nat_abs x ≤ max_factor) (hy : nat_abs y ≤ max_factor) where
  pub spread-small : nat_abs (x -ℤ y) ≤ 2 * max_factor
  spread-small = omega (arith, nat_abs_sub x y)
