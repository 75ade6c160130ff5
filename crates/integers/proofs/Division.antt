-- Laws of floor division and of rounding by a positive number.
use mathlib.Core.Path.{◌≡◌, refl, ap, ◌∙◌}
use Prim.Native.Nat.{ℕ, suc, ◌+◌, ◌-◌, ◌*◌, ◌<◌}
use native.Mathlib.Nat.{mod-lt, div-add-mod'}
use native.Mathlib.Omega.{arith}
use lib.Arith.{digits_div, digits_mod, comp_comp}
use lib.IntN.{ℤ, pos, negsuc, nat_abs, ◌+ℤ◌, ◌*ℤ◌}
use Rattle.integers.specs.Division.{floor_div, floor_mod, round_up, round_away}
use Rattle.integers.proofs.Linear.{⊖s}
use Rattle.integers.proofs.Sizes.{nat_abs_neg}

-- ---- floor division: z is quotient × d + remainder, and only so

pub floor_mod-lt : (z : ℤ) (d : ℕ) → 0 < d → floor_mod z d < d
floor_mod-lt (pos n) d h = mod-lt n h
floor_mod-lt (negsuc n) d h = omega arith

pub floor_split : (z : ℤ) (d : ℕ) → 0 < d → floor_div z d *ℤ pos d +ℤ pos (floor_mod z d) ≡ z
floor_split (pos n) d h = ap pos (div-add-mod' n d)
floor_split (negsuc n) d h = simp ⊖s (omega (arith, div-add-mod' n d, mod-lt n h))

-- below zero: −(a + 1) × d + r is −(m + 1) with m = a × d + (d − 1 − r)
below : (a r d : ℕ) → r < d → negsuc a *ℤ pos d +ℤ pos r ≡ negsuc (a * d + (d - suc r))
below a r d h = simp ⊖s (omega arith)

pub floor_unique : (q : ℤ) (r d : ℕ) → r < d → (floor_div (q *ℤ pos d +ℤ pos r) d ≡ q) × (floor_mod (q *ℤ pos d +ℤ pos r) d ≡ r)
floor_unique (pos a) r d h = (ap pos (digits_div a h), digits_mod a h)
floor_unique (negsuc a) r d h =
    rw (below a r d h) (
      ap negsuc (digits_div a {r = d - suc r} (omega arith)),
      ap (λ (x : ℕ). d - suc x) (digits_mod a {r = d - suc r} (omega arith)) ∙ comp_comp h,
    )

-- ---- rounding to the nearest, a half away from zero

pub nat_abs_round_away : (z : ℤ) (d : ℕ) → nat_abs (round_away z d) ≡ round_up (nat_abs z) d
nat_abs_round_away (pos n) d = refl
nat_abs_round_away (negsuc n) d = nat_abs_neg (pos (round_up (suc n) d))
