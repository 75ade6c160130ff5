-- A book's bytes piece by piece, as they are stored, the header, then each contract; a contract as the numbers that its bits are; and a row of a table.
use mathlib.Core.List.{List, [], ◌∷◌, ◌++◌, flat_map}
use Rattle.std.specs.Prelude.{ℕ, ◌+◌, ◌*◌, ◌^◌, ◌≤◌, get_or}
use Rattle.bits.specs.Bits.{digits}
use Rattle.bits.specs.Fields.{bits, file_of}
use Rattle.tariff.specs.declared.contracts.Contract.{Contract}
use Rattle.tariff.specs.Refusals.{Check}
use Rattle.tariff.specs.Checks.{node_number, quantity_range}
use Rattle.layouts.specs.declared.forms.Form.{Form}
use Rattle.layouts.specs.Forms.{end_width, record_bytes, spare_pattern_of}
use Rattle.layouts.specs.BookFile.{kind_bit_of, period_bit_of, contract_fields}
use Rattle.layouts.specs.BookTable.{row_from, ContractFits}

-- the header of a book of m contracts
abbrev pub header_bytes : Form → ℕ → List ℕ
header_bytes f m = file_of (bits 10 m ∷ bits 6 (spare_pattern_of f) ∷ [])

abbrev pub contract_bytes : Form → Contract → List ℕ
contract_bytes f c = file_of (contract_fields (end_width f) c)

-- the front of a book of m contracts, as far as its first contracts, cs
abbrev pub book_front : Form → ℕ → List Contract → List ℕ
book_front f m cs = header_bytes f m ++ flat_map (contract_bytes f) cs

-- a contract's kind, period and holder as one number
abbrev pub terms_number_of : Contract → ℕ
terms_number_of c = (kind_bit_of c.kind * 2 + period_bit_of c.period) * 1024 + c.holder

-- a contract's bits as one number, from its kind, period and holder as one, its ends and its quantity
abbrev pub contract_number_of : Form → ℕ → ℕ → ℕ → ℕ → ℕ
contract_number_of f terms source sink quantity = (terms * 2 ^ (end_width f + end_width f) + (source * 2 ^ end_width f + sink)) * 1048576 + quantity

-- the bytes of a contract whose bits are v
abbrev pub bits_bytes : Form → ℕ → List ℕ
bits_bytes f v = digits 8 (record_bytes f) v

-- a contract's own checks, on its numbers
abbrev pub number_checks : ℕ → ℕ → ℕ → ℕ → List Check
number_checks n source sink quantity = node_number n source sink ∷ quantity_range quantity ∷ []

-- the six cells from a on are a contract's, each within its field
pub record RowFits (f : Form) (cells : List ℕ) (a : ℕ) : Type 0 where
  pub kind-is_bit : get_or cells a 0 ≤ 1
  pub period-is_bit : get_or cells (a + 1) 0 ≤ 1
  pub fits : ContractFits (end_width f) (row_from cells a)
