-- What inner functions say: the first checks, a book that can be read, and a book grown by the losses that a square says.
use Rattle.std.specs.Prelude.{◌≡◌, ℕ, ◌+◌, ◌≤◌, ◌<◌, length}
use mathlib.Core.List.{List, ◌∷◌, ◌++◌, flat_map}
use Rattle.lists.specs.Lists.{list_to}
use Rattle.tariff.specs.declared.contracts.Contract.{Contract}
use Rattle.tariff.specs.declared.contracts.Period.{Period}
use Rattle.tariff.specs.declared.units.Transfer.{Transfer}
use Rattle.tariff.specs.Refusals.{Check, first}
use Rattle.tariff.specs.Checks.{period_number}
use Rattle.tariff.specs.Units.{max_contracts, max_quantity}
use Rattle.layouts.specs.Writing.{WriteAnswer}
use Rattle.layouts.specs.declared.forms.Form.{Form}
use Rattle.layouts.specs.BookFile.{book_bytes_of, book_file, contract_count_in, book_form_in, contract_in}
use Rattle.layouts.specs.Writing.{Writes}
use Rattle.book_rules.specs.BookChecks.{own_checks}
use Rattle.book_growth.specs.Inner.{growth_checks, Whole}
use Rattle.migration_rules.specs.Transfers.{RowLists, range_checks}
use Rattle.migration_rules.specs.ContractRules.{new_from, new_book}
use Rattle.migration_transfers.specs.Squares.{lost_in}

-- 17, the book's own, 22
unfoldable pub input_checks : ℕ → ℕ → List ℕ → RowLists → List ℕ → List Check
input_checks n t book lists loads =
    period_number t ∷ own_checks n book ++ range_checks lists loads

-- a book of m contracts in its form, whose quantities are in range
pub record Readable (f : Form) (m : ℕ) (book : List ℕ) : Type 0 where
  pub few : m ≤ max_contracts
  pub whole : Whole f book
  pub count-is : contract_count_in book ≡ m
  pub there : book_bytes_of f m ≤ length book
  pub quantities : (i : ℕ) → i < m → (contract_in f book i).quantity.0 ≤ max_quantity

abbrev pub contracts_to : Form → List ℕ → ℕ → List Contract
contracts_to f book m = list_to m (contract_in f book)

-- what follows the first m contracts
abbrev pub new_to : Form → List ℕ → Period → List (List Transfer) → List ℕ → ℕ → List Contract
new_to f book t square loads m = flat_map (new_from (lost_in square) loads t) (contracts_to f book m)

-- the book grown by them
abbrev pub grown_to : Form → List ℕ → Period → List (List Transfer) → List ℕ → ℕ → List Contract
grown_to f book t square loads m = new_book (lost_in square) loads t (contracts_to f book m)

-- room for all of them
pub record Roomy (f : Form) (old new : List Contract) (file : List ℕ) : Type 0 where
  pub few : length old + length new ≤ max_contracts
  pub room : book_bytes_of f (length old + length new) ≤ length file

-- what is left to promise where 23 passes: by 10 and 9 alone, the book of contracts cs in its form
abbrev pub Grows : List ℕ → List Contract → List ℕ → WriteAnswer → List ℕ → Type 0
Grows book cs place answer exit = Writes (first (growth_checks (book_form_in book) (length cs) (length place))) (book_file (book_form_in book) cs) place answer exit
