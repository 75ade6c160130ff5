-- Division of a whole number by a positive one, and rounding. Definitions only. With d = 0 they mean nothing.
use Rattle.std.specs.Prelude.{ℕ, suc, ◌+◌, ◌-◌, ◌*◌, ◌/◌, ◌%◌, ℤ, pos, negsuc, neg_ℤ}

-- z / d rounded down, towards minus infinity
abbrev pub floor_div : ℤ → ℕ → ℤ
floor_div (pos n) d = pos (n / d)
floor_div (negsuc n) d = negsuc (n / d)

-- what is left of z above floorDiv z d × d: 0 to d − 1
abbrev pub floor_mod : ℤ → ℕ → ℕ
floor_mod (pos n) d = n % d
floor_mod (negsuc n) d = d - suc (n % d)

-- n / d to the nearest, a half upwards
abbrev pub round_up : ℕ → ℕ → ℕ
round_up n d = (2 * n + d) / (2 * d)

-- z / d to the nearest, a half away from zero
abbrev pub round_away : ℤ → ℕ → ℤ
round_away (pos n) d = pos (round_up n d)
round_away (negsuc n) d = neg_ℤ (pos (round_up (suc n) d))
