-- Fields side by side, most significant bit first: what the bytes of a file are made of. Definitions only.
use Rattle.std.specs.Prelude.{List, [], ◌∷◌, ℕ, ◌+◌, ◌*◌, ◌/◌, ◌^◌}
use Rattle.bits.specs.Bits.{digits}

-- a value and the number of bits that it takes
pub record Field : Type 0 where
  pub width : ℕ
  pub value : ℕ

abbrev pub bits : ℕ → ℕ → Field
bits w v = record { width = w; value = v }

-- how many bits the fields take
abbrev pub total_width : List Field → ℕ
total_width [] = 0
total_width (f ∷ fs) = f.width + total_width fs

-- the fields as one number
abbrev pub packed : List Field → ℕ
packed [] = 0
packed (f ∷ fs) = f.value * 2 ^ total_width fs + packed fs

-- the fields as bytes, where they fill whole bytes
unfoldable pub file_of : List Field → List ℕ
file_of fs = digits 8 (total_width fs / 8) (packed fs)
