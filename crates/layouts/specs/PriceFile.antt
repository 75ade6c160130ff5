-- Document 01, "The three files", prices: period 1 bit, constraints 7, a price of 19 bits for each, zero bits to the byte's end.
use Rattle.std.specs.Prelude.{not, List, [], ◌∷◌, ◌++◌, map, ℕ, ◌+◌, ◌*◌, eqb}
use Rattle.bits.specs.Bits.{field, fields}
use Rattle.bits.specs.Fields.{Field, bits, file_of}
use Rattle.tariff.specs.declared.refusals.Refusal.TheVariants.{PriceCount}
use Rattle.tariff.specs.Refusals.{Check}
use Rattle.layouts.specs.Files.{bytes_for, pad_for}

abbrev pub price_width : ℕ
price_width = 19

-- the bits before the padding, and the bytes of the file
abbrev pub price_bits : ℕ → ℕ
price_bits k = 8 + price_width * k

abbrev pub price_bytes : ℕ → ℕ
price_bytes k = bytes_for (price_bits k)

-- ---- values to bytes

unfoldable pub price_fields : ℕ → ℕ → List ℕ → List Field
price_fields t k ps = (bits 1 t ∷ bits 7 k ∷ []) ++ map (bits price_width) ps ++ bits (pad_for (price_bits k)) 0 ∷ []

-- the file of a period's prices, one for each of k constraints
unfoldable pub price_file : ℕ → ℕ → List ℕ → List ℕ
price_file t k ps = file_of (price_fields t k ps)

-- ---- bytes to values

abbrev pub period_in : List ℕ → ℕ
period_in s = field s 0 1

abbrev pub price_count_in : List ℕ → ℕ
price_count_in s = field s 1 7

unfoldable pub prices_in : ℕ → List ℕ → List ℕ
prices_in k s = fields s 8 price_width k

abbrev pub price_pad_in : ℕ → List ℕ → ℕ
price_pad_in k s = field s (price_bits k) (pad_for (price_bits k))

-- 14: the file's count differs from the stated one
abbrev pub price_count : List ℕ → ℕ → Check
price_count s k = record { fails = not (eqb (price_count_in s) k); refusal = PriceCount }
