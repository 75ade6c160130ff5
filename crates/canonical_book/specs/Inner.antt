-- What inner functions say: the bytes of a row from its number, and numbers whose contracts fit a form.
use Rattle.std.specs.Prelude.{◌≡◌, List, ℕ}
use Rattle.tariff.specs.declared.contracts.Contract.{Contract}
use Rattle.layouts.specs.declared.forms.Form.{Form}
use Rattle.layouts.specs.Forms.{end_width}
use Rattle.layouts.specs.Inner.{contract_for}
use Rattle.layouts.specs.BookTable.{ContractFits}
use Rattle.book_rules.specs.Inner.{contract_bytes}
use Rattle.canonical_rules.specs.Inner.{row_number}

-- the bytes of the row whose number is v
abbrev pub row_bytes : Form → ℕ → List ℕ
row_bytes form v = contract_bytes form (contract_for 12 v)

-- v is the number of a contract that a book of this form has room for
pub record RowOf (form : Form) (v : ℕ) : Type 0 where
  pub of : Contract
  pub fits : ContractFits (end_width form) of
  pub is : v ≡ row_number of
