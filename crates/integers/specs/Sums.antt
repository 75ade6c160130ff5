-- Terms of whole numbers that lib.IntN has not: the greater of a number and 0, whether one is 0, and finite sums. Definitions only.
use Rattle.std.specs.Prelude.{Bool, List, [], ◌∷◌, ℕ, zero, suc, ltb, ℤ, pos, negsuc, nat_abs, ◌+ℤ◌}

-- the greater of x and 0
abbrev pub max0 : ℤ → ℤ
max0 (pos n) = pos n
max0 (negsuc n) = pos 0

-- whether x isn't 0
abbrev pub nonzero : ℤ → Bool
nonzero x = ltb 0 (nat_abs x)

-- g 0 + g 1 + … + g (n − 1)
unfoldable pub sum_to : ℕ → (ℕ → ℤ) → ℤ
sum_to zero g = pos 0
sum_to (suc n) g = sum_to n g +ℤ g n

-- the sum of g x over the x of a list
unfoldable pub sum_over_of : {A : Type 0} → List A → (A → ℤ) → ℤ
sum_over_of [] g = pos 0
sum_over_of (x ∷ xs) g = g x +ℤ sum_over_of xs g
