-- What a machine operation on i64 gives: the numbers themselves, where they fit. `op_fits` answers the need that it does not overflow, `op_is` gives the
-- value.
use mathlib.Core.Path.{◌≡◌, refl, sym, ap, ◌∙◌, subst}
use mathlib.Core.Bool.{Bool, true, false, not}
use Prim.Native.Nat.{ℕ, ◌<◌, ◌≤◌, ◌^◌}
use native.Mathlib.Nat.{lt_of_le_of_lt, pos_of_ne-zero}
use native.Mathlib.Omega.{arith}
use borrow.Author.Tests.{eqb-true, eqb-false, lt-ltb}
use lib.Dec.{eqb}
use lib.IntN.{ℤ, pos, negsuc, nat_abs, ◌-ℤ◌, +ℤ_invr}
use lib.Signed.{mag}
use mir.Syntax.{w64}
use mir.Val.{SFits, to_z, of_z}
use mir.ValLaws.{to_z-of_z}
use mir.Facts.{to_z_pos}
use Rattle.integers.specs.Sums.{nonzero}
use Rattle.integers.proofs.Sizes.{zero_size, sub_equal}

mag_le : (x : ℤ) → mag x ≤ nat_abs x
mag_le (pos a) = omega arith
mag_le (negsuc a) = omega arith

-- a number of small size fits an i64
pub fits64 : (x : ℤ) → nat_abs x < 2 ^ 63 → SFits w64 x
fits64 x h = record { sfits = lt_of_le_of_lt (mag_le x) h }

-- what is kept in an i64 is read back
pub back : (x : ℤ) → nat_abs x < 2 ^ 63 → to_z w64 (of_z w64 x) ≡ x
back x h = to_z-of_z w64 x (fits64 x h)

-- so is a cast of an unsigned number
pub cast_back : (n : ℕ) → n < 2 ^ 63 → to_z w64 n ≡ pos n
cast_back n h = to_z_pos w64 h

-- one law for every operation, on operands that are known
module _ (op : ℤ → ℤ → ℤ) {v u x y : ℤ} (ev : v ≡ x) (eu : u ≡ y) (h : nat_abs (op x y) < 2 ^ 63) where
  same : op v u ≡ op x y
  same i = op (ev i) (eu i)

  pub op_fits : SFits w64 (op v u)
  op_fits = subst (λ (z : ℤ). SFits w64 z) (sym same) (fits64 (op x y) h)

  pub op_is : to_z w64 (of_z w64 (op v u)) ≡ op x y
  op_is = to_z-of_z w64 _ op_fits ∙ same

-- two numbers kept in an i64 differ where their bits do
pub differ_is : (x y : ℤ) → nat_abs x < 2 ^ 63 → nat_abs y < 2 ^ 63 → not (eqb (of_z w64 x) (of_z w64 y)) ≡ nonzero (x -ℤ y)
differ_is x y hx hy = by (eqb (of_z w64 x) (of_z w64 y)) refl
  where
    by : (b : Bool) → eqb (of_z w64 x) (of_z w64 y) ≡ b → not b ≡ nonzero (x -ℤ y)
    by true e =
        let same : x ≡ y = sym (back x hx) ∙ ap (to_z w64) (eqb-true (of_z w64 x) (of_z w64 y) e) ∙ back y hy in
        rw (same, +ℤ_invr y)
    by false e = sym (lt-ltb 0 (nat_abs (x -ℤ y)) (pos_of_ne-zero (λ z. eqb-false (of_z w64 x) (of_z w64 y) e (ap (of_z w64) (sub_equal x y (zero_size (x -ℤ y) z))))))
