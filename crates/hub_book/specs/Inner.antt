-- What inner functions say: the checks part by part, and the rows that join a book's end.
use Rattle.std.specs.Prelude.{List, [], ◌∷◌, ◌++◌, ℕ, ◌+◌, ◌≤◌, ◌<◌, length, get_or}
use Rattle.lists.specs.Lists.{list_to}
use Rattle.tariff.specs.declared.contracts.Contract.{Contract}
use Rattle.tariff.specs.Refusals.{Check}
use Rattle.tariff.specs.Checks.{kind_and_period, holder_range, quantity_range, listed_nodes}
use Rattle.tariff.specs.Units.{max_contracts}
use Rattle.layouts.specs.declared.forms.Form.{Form}
use Rattle.layouts.specs.Forms.{end_width, ends_below_of}
use Rattle.layouts.specs.BookFile.{book_bytes_of, book_form_in, book_in}
use Rattle.layouts.specs.BookTable.{ContractFits}
use Rattle.book_rules.specs.BookChecks.{own_checks}
use Rattle.book_rules.specs.Inner.{book_front}
use Rattle.hub_rules.specs.Hubs.{hub_shape, hub_twice, hub_contract}
use Rattle.hub_book.specs.declared.Terms.{Terms}
use Rattle.hub_book.specs.AddHubContract.{HubCall, hub_call}

-- 17, 18, 11, 11, 13, ends held to be below a number
unfoldable pub term_checks : ℕ → Terms → List ℕ → ℕ → List Check
term_checks below t ns quantity =
    kind_and_period t.kind t.period
    ∷ holder_range t.holder
    ∷ listed_nodes below ns
    ∷ listed_nodes below (t.sink ∷ [])
    ∷ quantity_range quantity
    ∷ []

-- all that does not ask how many contracts are made
unfoldable pub given_checks : ℕ → List ℕ → Terms → List ℕ → List ℕ → ℕ → List Check
given_checks n s t ns ws quantity =
    own_checks n s ++ (term_checks (ends_below_of (book_form_in s) n) t ns quantity ++ hub_shape ns ws ∷ hub_twice ns ∷ [])

-- a call by its terms
abbrev pub terms_call : ℕ → List ℕ → Terms → List ℕ → List ℕ → ℕ → List ℕ → HubCall
terms_call n book t ns ws quantity place = hub_call n book t.kind t.period t.holder ns ws t.sink quantity place

-- the contract of row i
abbrev pub row_contract : Terms → List ℕ → List ℕ → ℕ → Contract
row_contract t sources quantities i = hub_contract t.kind t.period t.holder t.sink (get_or sources i 0) (get_or quantities i 0)

-- rows that fit, and room for them
pub record HubRoom (f : Form) (count : ℕ) (t : Terms) (made : ℕ) (sources quantities : List ℕ) (place : List ℕ) : Type 0 where
  pub few : count + made ≤ max_contracts
  pub source-cells : made ≤ length sources
  pub quantity-cells : made ≤ length quantities
  pub bytes : book_bytes_of f (count + made) ≤ length place
  pub fits : (i : ℕ) → i < made → ContractFits (end_width f) (row_contract t sources quantities i)

-- the bytes of the book with its rows behind it
abbrev pub grown_front : Form → ℕ → Terms → ℕ → List ℕ → List ℕ → List ℕ → List ℕ
grown_front f count t made sources quantities s = book_front f (count + made) (book_in s ++ list_to made (row_contract t sources quantities))
