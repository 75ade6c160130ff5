-- Document 02, paper 10: what the market gets of a book, and what a holder gets.
use Rattle.std.specs.Prelude.{cond, ℕ, zero, suc, eqb}
use mathlib.Core.List.{List, [], ◌∷◌, ◌++◌, map, flat_map}
use Rattle.bits.specs.Fields.{bits, file_of}
use Rattle.tariff.specs.declared.contracts.Contract.{Contract}
use Rattle.layouts.specs.declared.forms.Form.{Form}
use Rattle.layouts.specs.Forms.{end_width}
use Rattle.layouts.specs.BookFile.{contract_fields, book_file, contract_count_in, book_form_in, contract_at, book_in}

-- ---- "From one book the market gets the book file with every holder 0."

unfoldable pub anonymous : Contract → Contract
anonymous c = record { kind = c.kind; period = c.period; holder = 0; source = c.source; sink = c.sink; quantity = c.quantity }

-- "a book made from a book keeps its form" (paper 9)
unfoldable pub market_file : List ℕ → List ℕ
market_file s = book_file (book_form_in s) (map anonymous (book_in s))

-- ---- "A holder gets that holder's contracts in full, in book order, each as a 16-bit number and then the contract's own bytes."

-- a contract and its number in the book, from 0
pub record Numbered : Type 0 where
  pub number : ℕ
  pub contract : Contract

abbrev pub numbered : ℕ → Contract → Numbered
numbered i c = record { number = i; contract = c }

-- contract i where h holds it
unfoldable pub held_at : ℕ → ℕ → Contract → List Numbered
held_at h i c = cond (eqb c.holder h) (numbered i c ∷ []) []

-- of the first m contracts those that h holds
unfoldable pub held_to : ℕ → (ℕ → Contract) → ℕ → List Numbered
held_to h contracts zero = []
held_to h contracts (suc m) = held_to h contracts m ++ held_at h m (contracts m)

abbrev pub held_in_book : ℕ → List ℕ → List Numbered
held_in_book h s = held_to h (contract_at s) (contract_count_in s)

-- the number in 16 bits, then the contract as a book has it
unfoldable pub view_row : Form → Numbered → List ℕ
view_row f r = file_of (bits 16 r.number ∷ contract_fields (end_width f) r.contract)

unfoldable pub holder_view : ℕ → List ℕ → List ℕ
holder_view h s = flat_map (view_row (book_form_in s)) (held_in_book h s)
