-- A balance's range, and a number of cents with its sign.
use mathlib.Core.Path.{◌≡◌, refl, sym}
use mathlib.Core.Bool.{true, false}
use Prim.Native.Nat.{ℕ, suc, ◌<◌}
use native.Mathlib.Omega.{arith}
use borrow.Author.Tests.{ltb-true, ltb-false, lt-ltb, le-ltb}
use lib.Dec.{ltb}
use lib.IntN.{ℤ, pos, negsuc, neg_ℤ, nat_abs}
use lib.Signed.{lt_z}
use Rattle.integers.proofs.Sizes.{nat_abs_neg}
use Rattle.tariff.specs.Units.{max_balance}
use Rattle.share_rules.specs.ShareBalance.{signed_like_of}

pub below-range : (z : ℤ) → lt_z z (negsuc 999999999) ≡ true → true ≡ ltb max_balance (nat_abs z)
below-range (pos n) e = cc
below-range (negsuc n) e = sym (lt-ltb 1000000000 (suc n) (omega (arith, ltb-true 999999999 n e)))

pub not_below : (z : ℤ) → lt_z z (negsuc 999999999) ≡ false → lt_z (pos 1000000000) z ≡ ltb max_balance (nat_abs z)
not_below (pos n) e = refl
not_below (negsuc n) e = sym (le-ltb 1000000000 (suc n) (omega (arith, ltb-false 999999999 n e)))

pub signed_negative : (z : ℤ) (m : ℕ) → lt_z z (pos 0) ≡ true → neg_ℤ (pos m) ≡ signed_like_of z m
signed_negative (pos n) m e = absurd (no (ltb-true n 0 e))
  where
    no : n < 0 → ⊥
    no h = omega arith
signed_negative (negsuc n) m e = refl

pub signed_positive : (z : ℤ) (m : ℕ) → lt_z z (pos 0) ≡ false → pos m ≡ signed_like_of z m
signed_positive (pos n) m e = refl
signed_positive (negsuc n) m e = cc

pub signed_sized : (z : ℤ) (m : ℕ) → nat_abs (signed_like_of z m) ≡ m
signed_sized (pos n) m = refl
signed_sized (negsuc n) m = nat_abs_neg (pos m)
