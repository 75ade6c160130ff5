-- Document 01, "The three files", book: contracts 10 bits, spare 6; each contract 48 bits: kind 1 (0 obligation, 1 option), period 1, holder 10, source 8,
-- sink 8, quantity 20. First with the width w of the ends left open; each field stands behind those before it.
use Rattle.std.specs.Prelude.{cond, ℕ, ◌+◌, ◌*◌, eqb, length}
use mathlib.Core.List.{List, [], ◌∷◌, ◌++◌, flat_map}
use Rattle.lists.specs.Lists.{list_to}
use Rattle.bits.specs.Bits.{field}
use Rattle.bits.specs.Fields.{Field, bits, file_of}
use Rattle.tariff.specs.declared.contracts.Kind.{Kind}
use Rattle.tariff.specs.declared.contracts.Kind.TheVariants.{Obligation, Option}
use Rattle.tariff.specs.declared.contracts.Period.{Period}
use Rattle.tariff.specs.declared.contracts.Period.TheVariants.{OffPeak, OnPeak}
use Rattle.tariff.specs.declared.contracts.Contract.{Contract}
use Rattle.tariff.specs.ContractRules.{kind_of, period_of}
use Rattle.layouts.specs.declared.forms.Form.{Form}
use Rattle.layouts.specs.declared.forms.Form.TheVariants.{Narrow, Wide}
use Rattle.layouts.specs.Forms.{end_width, record_bytes, spare_pattern_of}

abbrev pub kind_bit_of : Kind → ℕ
kind_bit_of Obligation = 0
kind_bit_of Option = 1

abbrev pub period_bit_of : Period → ℕ
period_bit_of OffPeak = 0
period_bit_of OnPeak = 1

-- a contract of six numbers, in the file's order
abbrev pub contract : ℕ → ℕ → ℕ → ℕ → ℕ → ℕ → Contract
contract kind period holder source sink quantity =
    record { kind = kind_of kind; period = period_of period; holder = holder; source = source; sink = sink; quantity = record { 0 = quantity } }

-- ---- over the width of the ends

abbrev pub contract_bits : ℕ → ℕ
contract_bits w = 1 + 1 + 10 + w + w + 20

unfoldable pub contract_fields : ℕ → Contract → List Field
contract_fields w c =
    bits 1 (kind_bit_of c.kind) ∷ bits 1 (period_bit_of c.period) ∷ bits 10 c.holder ∷ bits w c.source ∷ bits w c.sink ∷ bits 20 c.quantity.0 ∷ []

-- a book's fields, with the spare bits p
unfoldable pub packed_book : ℕ → ℕ → List Contract → List Field
packed_book w p cs = (bits 10 (length cs) ∷ bits 6 p ∷ []) ++ flat_map (contract_fields w) cs

-- the contract whose bits begin at a
unfoldable pub contract_from : ℕ → List ℕ → ℕ → Contract
contract_from w s a =
    contract (field s a 1) (field s (a + 1) 1) (field s (a + 1 + 1) 10)
    (field s (a + 1 + 1 + 10) w) (field s (a + 1 + 1 + 10 + w) w) (field s (a + 1 + 1 + 10 + w + w) 20)

-- ---- by the form (document 02, paper 9): a narrow contract is six bytes, a wide one seven

abbrev pub book_bytes_of : Form → ℕ → ℕ
book_bytes_of f m = 2 + record_bytes f * m

unfoldable pub book_file : Form → List Contract → List ℕ
book_file f cs = file_of (packed_book (end_width f) (spare_pattern_of f) cs)

abbrev pub contract_count_in : List ℕ → ℕ
contract_count_in s = field s 0 10

abbrev pub book_spare_in : List ℕ → ℕ
book_spare_in s = field s 10 6

-- "A wide book has all six spare bits set": wide exactly where they are
unfoldable pub book_form_in : List ℕ → Form
book_form_in s = cond (eqb (book_spare_in s) 63) Wide Narrow

-- contract i of the bytes in the form f
unfoldable pub contract_in : Form → List ℕ → ℕ → Contract
contract_in f s i = contract_from (end_width f) s (16 + contract_bits (end_width f) * i)

-- and in the form that they say
abbrev pub contract_at : List ℕ → ℕ → Contract
contract_at s i = contract_in (book_form_in s) s i

abbrev pub book_in : List ℕ → List Contract
book_in s = list_to (contract_count_in s) (contract_at s)
