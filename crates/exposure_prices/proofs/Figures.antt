-- Figures: sums of what of excesses is above 0, where a figure is largest, and whole cents with parts.
use mathlib.Core.Path.{◌≡◌, refl, ap₂, ◌∙◌}
use mathlib.Core.Bool.{Bool, true, false, cond}
use Prim.Native.Nat.{ℕ, ◌+◌, ◌*◌, ◌/◌, ◌%◌, ◌≤◌}
use native.Mathlib.Nat.{div-add-mod'}
use native.Mathlib.Numerals.{add-one}
use native.Mathlib.Omega.{arith}
use lib.IntN.{ℤ, pos, ◌+ℤ◌, ◌*ℤ◌}
use lib.Signed.{lt_z}
use Rattle.integers.specs.Sums.{sum_to}
use Rattle.integers.proofs.Linear.{⊖s}
use Rattle.tariff.specs.Units.{per_cent, max_price}
use Rattle.exposure_rules.specs.Exposure.{largest_of}

-- ---- a sum of excesses above 0, one more

pub sum_more : (k : ℕ) (f : ℕ → ℤ) (total more : ℕ) → pos total ≡ sum_to k f → pos more ≡ f k → pos (total + more) ≡ sum_to (k + 1) f
unfolding sum_to
sum_more k f total more e m = rw (add-one k) (ap₂ ◌+ℤ◌ e m)

-- ---- where a figure is largest, one more

pub larger_more : (k : ℕ) (f : ℕ → ℤ) (l r : ℕ) → l ≡ largest_of k f → r ≡ cond (lt_z (f l) (f k)) k l → r ≡ largest_of (k + 1) f
unfolding largest_of
larger_more k f l r e t = t ∙ rw (add-one k, ← e) refl

-- ---- whole cents and parts of so many units at the highest price: two hundred units are a cent

pub units_are : (u : ℕ) → pos (u / 200) *ℤ pos per_cent +ℤ pos (u % 200 * max_price) ≡ pos u *ℤ pos max_price
units_are u = simp ⊖s (omega (arith, div-add-mod' u 200))

-- one of two, neither behind the next
pub at_most_one : (b : Bool) (k l r : ℕ) → l ≤ k → r ≡ cond b k l → r ≤ k + 1
at_most_one true k l r h e = omega arith
at_most_one false k l r h e = omega arith
