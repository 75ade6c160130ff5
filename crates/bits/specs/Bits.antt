-- A bit-packed file, the most significant bit first, as one number. Bytes are digits of 8 bits; a run of fields of w bits is a run of digits of w bits.
use Rattle.std.specs.Prelude.{ℕ, zero, suc, ◌+◌, ◌-◌, ◌*◌, ◌/◌, ◌%◌, ◌^◌, ◌<◌, List, [], ◌∷◌, length, get_or}

-- the number whose digits of w bits are ds, the first the most significant
abbrev pub number : ℕ → List ℕ → ℕ
number w [] = 0
number w (d ∷ ds) = d * 2 ^ (w * length ds) + number w ds

-- the n lowest digits of w bits of a number
abbrev pub digits : ℕ → ℕ → ℕ → List ℕ
digits w zero v = []
digits w (suc n) v = v / 2 ^ (w * n) % 2 ^ w ∷ digits w n v

-- the field of `width` bits at bit `offset` of the bytes s
unfoldable pub field : List ℕ → ℕ → ℕ → ℕ
field s offset width = number 8 s / 2 ^ (8 * length s - (offset + width)) % 2 ^ width

-- n fields of `width` bits each, one after the other from bit `offset` on
unfoldable pub fields : List ℕ → ℕ → ℕ → ℕ → List ℕ
fields s offset width n = digits width n (number 8 s / 2 ^ (8 * length s - (offset + width * n)))

-- what a slice of u8 holds: each of its cells is below 256
abbrev pub Bytes : List ℕ → Type 0
Bytes s = (i : ℕ) → i < length s → get_or s i 0 < 256
