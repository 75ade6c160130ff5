-- Figures as text: "figures have no leading zeros, and a minus sign if negative" (document 01, "The hour statement").
use Rattle.std.specs.Prelude.{cond, List, [], ◌∷◌, ◌++◌, ℕ, zero, suc, ◌+◌, ◌/◌, ◌%◌, ltb, ℤ, pos, negsuc}

-- the decimal digits of n as characters, the most significant first; at most d of them
unfoldable pub digits_in : ℕ → ℕ → List ℕ
digits_in zero n = []
digits_in (suc d) n = cond (ltb n 10) ((48 + n) ∷ []) (digits_in d (n / 10) ++ (48 + n % 10) ∷ [])

-- a number below 10^20
unfoldable pub decimal : ℕ → List ℕ
decimal n = digits_in 20 n

unfoldable pub decimal_z : ℤ → List ℕ
decimal_z (pos n) = decimal n
decimal_z (negsuc n) = 45 ∷ decimal (suc n)
