-- A figure's sign and size, and division rounded down.
use mathlib.Core.Path.{◌≡◌, refl, ◌∙◌}
use mathlib.Core.Bool.{true, false}
use Prim.Native.Nat.{ℕ, ◌*◌, ◌^◌, ◌≤◌, ◌<◌}
use native.Mathlib.Nat.{mul_comm, div-le_of_le-mul, div-lt_iff_lt-mul}
use native.Mathlib.Omega.{arith}
use borrow.Author.Tests.{ltb-true}
use lib.IntN.{ℤ, pos, negsuc, neg_ℤ, nat_abs, ◌-ℤ◌, +ℤ_idl}
use lib.Signed.{lt_z}
use mir.Syntax.{w64}
use mir.Val.{SFits, to_z, of_z}
use Rattle.integers.specs.Division.{floor_div}
use Rattle.integers.proofs.Sizes.{nat_abs_sub}
use Rattle.integers.proofs.Machine.{cast_back, op_fits, op_is}

-- ---- a machine negation

module _ {v x : ℤ} (e : v ≡ x) (h : nat_abs x < 2 ^ 63) where
  pub minus-fits : SFits w64 (pos 0 -ℤ v)
  minus-fits = op_fits ◌-ℤ◌ {v = pos 0} refl e (omega (arith, nat_abs_sub (pos 0) x))

  pub minus_is : to_z w64 (of_z w64 (pos 0 -ℤ v)) ≡ neg_ℤ x
  minus_is = op_is ◌-ℤ◌ {v = pos 0} refl e (omega (arith, nat_abs_sub (pos 0) x)) ∙ +ℤ_idl (neg_ℤ x)

-- of an unsigned number that is cast
module _ (q : ℕ) (h : q < 2 ^ 63) where
  pub cast_minus_fits : SFits w64 (pos 0 -ℤ to_z w64 q)
  cast_minus_fits = minus-fits (cast_back q h) h

  pub cast_minus_is : to_z w64 (of_z w64 (pos 0 -ℤ to_z w64 q)) ≡ neg_ℤ (pos q)
  cast_minus_is = minus_is (cast_back q h) h

-- ---- the sign

not_below : (n : ℕ) → lt_z (pos n) (pos 0) ≡ true → ⊥
not_below n e = let no : n < 0 = ltb-true n 0 e in omega arith

pub negative_size : (z : ℤ) → lt_z z (pos 0) ≡ true → neg_ℤ z ≡ pos (nat_abs z)
negative_size (pos n) e = absurd (not_below n e)
negative_size (negsuc n) e = refl

pub positive-size : (z : ℤ) → lt_z z (pos 0) ≡ false → z ≡ pos (nat_abs z)
positive-size (pos n) e = refl
positive-size (negsuc n) e = cc

-- ---- division rounded down

-- a quotient of a number of size at most B × d, rounded down, has size at most B
pub floor_sized : (a : ℤ) (B d : ℕ) → 0 < d → nat_abs a ≤ B * d → nat_abs (floor_div a d) ≤ B
floor_sized (pos n) B d h e = div-le_of_le-mul d (omega (arith, mul_comm B d))
floor_sized (negsuc n) B d h e = (div-lt_iff_lt-mul {k = d} {x = n} {y = B} h).1 (omega arith)
