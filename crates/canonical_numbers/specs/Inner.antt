-- What inner functions say: cells that hold rows as numbers, a step of the walk, and contracts that numbers can be made of.
use Rattle.std.specs.Prelude.{◌≡◌, cond, List, ℕ, ◌≤◌, ◌<◌, length, Some, None}
use Rattle.tariff.specs.Units.{max_quantity, max_contracts}
use Rattle.layouts.specs.declared.forms.Form.{Form}
use Rattle.layouts.specs.BookFile.{book_bytes_of, contract_in}
use Rattle.canonical_rules.specs.Canonical.{Filled}
use Rattle.canonical_rules.specs.Theorems.{FiveFits}
use Rattle.canonical_rules.specs.Inner.{goes, out, pending, five_in_of, quantity_in, number_at}
use Rattle.canonical_numbers.specs.declared.Step.{Step}

-- a row's quantity is at most 1,000,000
abbrev pub SizedQuantity : ℕ → Type 0
SizedQuantity v = quantity_in v ≤ max_quantity

-- what a step of the walk gives of the pending row and the next one
pub record Steps (row next : ℕ) (s : Step) : Type 0 where
  pub out-is : s.out ≡ cond (goes five_in_of quantity_in number_at row next) (Some (out five_in_of quantity_in number_at row next)) None
  pub pending-is : s.pending ≡ pending five_in_of quantity_in number_at row next
  pub sized : SizedQuantity s.pending

-- the first contracts of a book's bytes, which numbers can be made of
pub record Countable (form : Form) (book : List ℕ) (count : ℕ) : Type 0 where
  pub few : count ≤ max_contracts
  pub room : book_bytes_of form count ≤ length book
  pub filled : (i : ℕ) → i < count → Filled (contract_in form book i)
  pub fits : (i : ℕ) → i < count → FiveFits (contract_in form book i)
