-- What inner functions say: the last checks of a book that grows, a book whose bytes are kept as they are, and contracts stored behind others.
use Rattle.std.specs.Prelude.{◌≡◌, List, [], ◌∷◌, ◌++◌, ℕ, ◌+◌, length}
use Rattle.lists.specs.Lent.{overwrite}
use Rattle.tariff.specs.declared.contracts.Contract.{Contract}
use Rattle.tariff.specs.Refusals.{Check}
use Rattle.tariff.specs.Checks.{contract_count, short_table}
use Rattle.layouts.specs.declared.forms.Form.{Form}
use Rattle.layouts.specs.Forms.{spare_pattern_of}
use Rattle.layouts.specs.BookFile.{book_bytes_of, contract_count_in, book_spare_in, book_form_in}
use Rattle.book_rules.specs.Inner.{book_front}

-- 10, 9
abbrev pub growth_checks : Form → ℕ → ℕ → List Check
growth_checks f grown bytes = contract_count grown ∷ short_table bytes (book_bytes_of f grown) ∷ []

-- a book in its form
pub record Whole (f : Form) (s : List ℕ) : Type 0 where
  pub form-is : book_form_in s ≡ f
  pub spare : book_spare_in s ≡ spare_pattern_of f
  pub size : length s ≡ book_bytes_of f (contract_count_in s)

-- new contracts stored from place at on, behind those that stand at a book's front, and the next place
pub record Appended (f : Form) (at : ℕ) (new : List Contract) (entry exit : List ℕ) (next : ℕ) : Type 0 where
  pub place : next ≡ at + length new
  pub front : (m : ℕ) (file : List ℕ) (cs : List Contract) → length cs ≡ at → entry ≡ overwrite (book_front f m cs) file
      → exit ≡ overwrite (book_front f m (cs ++ new)) file
