-- An amount raised by the largest one and divided once: its whole cents, parts and cents.
use mathlib.Core.Path.{◌≡◌, refl}
use Prim.Native.Nat.{ℕ, suc, ◌+◌, ◌-◌, ◌*◌, ◌/◌, ◌≤◌, ◌<◌}
use native.Mathlib.Omega.{arith}
use borrow.Author.Tests.{le-ltb}
use lib.IntN.{ℤ, pos, negsuc, neg_ℤ, nat_abs, ◌+ℤ◌, ◌-ℤ◌, ◌*ℤ◌}
use Rattle.integers.specs.Division.{round_up}
use Rattle.integers.proofs.Linear.{⊖of, ⊖s}
use Rattle.tariff.specs.Units.{per_cent}
use Rattle.tariff.specs.Inner.{max_amount, max_cents}
use Rattle.tariff.specs.Settlement.{cents}
use Rattle.hour_rules.specs.declared.PricedAmount.{PricedAmount}
use Rattle.hour_amounts.specs.declared.SettledAmount.{SettledAmount}
use Rattle.hour_amounts.specs.Inner.{UpFrom, SettledAs}

-- ---- raised by M

pub negative_raised : (M m : ℕ) (z : ℤ) → neg_ℤ z ≡ pos m → m ≤ M → pos (M - m) ≡ z +ℤ pos M
negative_raised M m z = rw (⊖of z) (simp ⊖s (omega arith))

pub positive-raised : (M n : ℕ) (z : ℤ) → z ≡ pos n → pos (M + n) ≡ z +ℤ pos M
positive-raised M n z = rw (⊖of z) (simp ⊖s (omega arith))

from_positive : (M n r : ℕ) (z : ℤ) → z ≡ pos n → pos r ≡ z +ℤ pos M → r ≡ n + M
from_positive M n r z = rw (⊖of z) (simp ⊖s (omega arith))

from_negative : (M n r : ℕ) (z : ℤ) → z ≡ negsuc n → pos r ≡ z +ℤ pos M → r + suc n ≡ M
from_negative M n r z = rw (⊖of z) (simp ⊖s (omega arith))

to_positive : (M r q : ℕ) (w : ℤ) → pos r ≡ w +ℤ pos M → r ≡ q + M → w ≡ pos q
to_positive M r q w = rw (⊖of w) (simp ⊖s (omega arith))

to_negative : (M r q : ℕ) (w : ℤ) → pos r ≡ w +ℤ pos M → r + q ≡ M → w ≡ neg_ℤ (pos q)
to_negative M r q w = rw (⊖of w) (simp ⊖s (omega arith))

pub one_more : (M r : ℕ) (w : ℤ) → pos r ≡ w +ℤ pos M → pos (r + 1) ≡ w +ℤ pos 1 +ℤ pos M
one_more M r w = rw (⊖of w) (simp ⊖s (omega arith))

pub lowered : (D K : ℤ) → D ≡ D -ℤ K +ℤ K
lowered D K = rw (⊖of D, ⊖of K) (simp ⊖s (omega arith))

pub raised-sized : (M r : ℕ) (w : ℤ) → pos r ≡ w +ℤ pos M → r ≤ 2 * M → nat_abs w ≤ M
raised-sized M r (pos n) e h = omega (arith, from_positive M n r (pos n) refl e)
raised-sized M r (negsuc n) e h = omega (arith, from_negative M n r (negsuc n) refl e)

-- no amount is raised above twice the largest
pub raised-most : (M r : ℕ) (z : ℤ) → pos r ≡ z +ℤ pos M → nat_abs z ≤ M → r ≤ 2 * M
raised-most M r (pos n) e h = omega (arith, from_positive M n r (pos n) refl e)
raised-most M r (negsuc n) e h = omega (arith, from_negative M n r (negsuc n) refl e)

-- ---- divided: d cents and p parts of the raised amount, w of the amount

module _ (w z : ℤ) (d p : ℕ) (whole : pos d ≡ w +ℤ pos max_cents) (raised : pos (d * per_cent + p) ≡ z +ℤ pos max_amount) where
  pub exact-of : w *ℤ pos per_cent +ℤ pos p ≡ z
  exact-of = linear w z whole raised
    where
      linear : (w z : ℤ) → pos d ≡ w +ℤ pos max_cents → pos (d * per_cent + p) ≡ z +ℤ pos max_amount → w *ℤ pos per_cent +ℤ pos p ≡ z
      linear w z = rw (⊖of w, ⊖of z) (simp ⊖s (omega arith))

-- d of them where p is less than half a cent, and d + 1 else; below zero half a cent is not enough
positive-down : (d p n : ℕ) → d * per_cent + p ≡ n + max_amount → p < per_cent / 2 → d ≡ round_up n per_cent + max_cents
positive-down d p n e h = omega arith

positive-up : (d p n : ℕ) → d * per_cent + p ≡ n + max_amount → p < per_cent → per_cent / 2 ≤ p → d + 1 ≡ round_up n per_cent + max_cents
positive-up d p n e small h = omega arith

negative_down : (d p n : ℕ) → d * per_cent + p + suc n ≡ max_amount → p < suc (per_cent / 2) → d + round_up (suc n) per_cent ≡ max_cents
negative_down d p n e h = omega arith

negative_up : (d p n : ℕ) → d * per_cent + p + suc n ≡ max_amount → p < per_cent → suc (per_cent / 2) ≤ p → d + 1 + round_up (suc n) per_cent ≡ max_cents
negative_up d p n e small h = omega arith

module _ (w : ℤ) (d p u : ℕ) (whole : pos d ≡ w +ℤ pos max_cents) where
  pub cents-down : (z : ℤ) → pos (d * per_cent + p) ≡ z +ℤ pos max_amount → UpFrom z u → p < u → w ≡ cents z
  cents-down (pos n) raised up h =
      let e = from_positive max_amount n _ (pos n) refl raised in
      to_positive max_cents d (round_up n per_cent) w whole (positive-down d p n e (omega (arith, up.above (le-ltb n 0 (omega arith)))))
  cents-down (negsuc n) raised up h =
      let e = from_negative max_amount n _ (negsuc n) refl raised in
      to_negative max_cents d (round_up (suc n) per_cent) w whole (negative_down d p n e (omega (arith, up.below refl)))

  pub cents-up : (z : ℤ) → pos (d * per_cent + p) ≡ z +ℤ pos max_amount → UpFrom z u → p < per_cent → u ≤ p → w +ℤ pos 1 ≡ cents z
  cents-up (pos n) raised up small h =
      let e = from_positive max_amount n _ (pos n) refl raised in
      to_positive max_cents (d + 1) (round_up n per_cent) (w +ℤ pos 1) (one_more max_cents d w whole)
      (positive-up d p n e small (omega (arith, up.above (le-ltb n 0 (omega arith)))))
  cents-up (negsuc n) raised up small h =
      let e = from_negative max_amount n _ (negsuc n) refl raised in
      to_negative max_cents (d + 1) (round_up (suc n) per_cent) (w +ℤ pos 1) (one_more max_cents d w whole)
      (negative_up d p n e small (omega (arith, up.below refl)))

-- ---- nothing, priced by nothing

abbrev pub no_priced : PricedAmount
no_priced = record { amount = record { 0 = pos 0 }; priced = 0; sized = omega arith }

abbrev pub no_amount : SettledAmount
no_amount = record { cents = pos 0; whole = pos 0; parts = 0; priced = 0 }

pub none-settled : SettledAs (pos 0) no_amount
none-settled =
    record { cents-is = refl; exact-is = refl; sized = record { cents-sized = omega arith; whole-sized = omega arith; parts-small = omega arith } }
