-- What the functions on runs of fields ask for, and what holds of a file that a writer writes from its first bit on.
use Rattle.std.specs.Prelude.{◌≡◌, List, ℕ, drop}
use Rattle.bits.specs.Fields.{Field, total_width, packed}
use Rattle.bits.specs.Inner.{written, bits_written}
use Rattle.bits.specs.declared.BitWriter.{BitWriter}

-- bytes of a file at most: the number of a bit in it is then far below 2^64
abbrev pub max_file_bytes : ℕ
max_file_bytes = 1000000

-- the writer p has written the fields fs into buf, which was first before
pub record WrittenFields (fs : List Field) (first buf : List ℕ) (p : BitWriter) : Type 0 where
  pub is : written buf p ≡ packed fs
  pub end : bits_written p ≡ total_width fs
  pub rest : drop p.at buf ≡ drop p.at first
