-- Document 01, "The three files": what they share. Fields are packed most significant bit first; zero bits fill the last byte.
use Rattle.std.specs.Prelude.{not, List, ℕ, ◌+◌, ◌-◌, ◌*◌, ◌/◌, ltb, eqb, length}
use Rattle.tariff.specs.declared.refusals.Refusal.TheVariants.{ShortFile, SpareBits, FileLength, Padding}
use Rattle.tariff.specs.Refusals.{Check}

-- how many bytes hold so many bits, and how many bits of padding that leaves
abbrev pub bytes_for : ℕ → ℕ
bytes_for used = (used + 7) / 8

abbrev pub pad_for : ℕ → ℕ
pad_for used = 8 * bytes_for used - used

-- 1: fewer bytes than the header's
abbrev pub short_file : List ℕ → ℕ → Check
short_file s header = record { fails = ltb (length s) header; refusal = ShortFile }

-- 4: "spare bits other than the two patterns", so other than the pattern of the form found
abbrev pub spare_other : ℕ → ℕ → Check
spare_other pattern spare = record { fails = not (eqb spare pattern); refusal = SpareBits }

-- 5: length differs from what the counts fix
abbrev pub file_length : List ℕ → ℕ → Check
file_length s size = record { fails = not (eqb (length s) size); refusal = FileLength }

-- 5, of a file that may not have more bytes than so many
abbrev pub file_too_long : List ℕ → ℕ → Check
file_too_long s most = record { fails = ltb most (length s); refusal = FileLength }

-- 8: a padding bit set
abbrev pub padding : ℕ → Check
padding pad = record { fails = not (eqb pad 0); refusal = Padding }
