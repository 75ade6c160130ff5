-- What paper 7 says of a book that a hub contract was added to: proved of the file written, for every call that the checks accept.
use Rattle.std.specs.Prelude.{◌≡◌, List, ◌++◌, ℕ, ◌+ℤ◌}
use Rattle.lists.specs.Lists.{Each}
use Rattle.tariff.specs.declared.contracts.Period.{Period}
use Rattle.tariff.specs.Refusals.{passed}
use Rattle.tariff.specs.ContractRules.{of_period}
use Rattle.tariff.specs.Feasibility.{total_flow}
use Rattle.tariff.specs.Refusals.{first}
use Rattle.tariff.specs.Settlement.{exact_total}
use Rattle.tariff.specs.Units.{Factors}
use Rattle.layouts.specs.Forms.{end_width}
use Rattle.layouts.specs.BookFile.{book_form_in, book_in}
use Rattle.layouts.specs.BookTable.{ContractFits}
use Rattle.book_rules.specs.BookChecks.{book_checks}
use Rattle.hub_rules.specs.Theorems.{quantities, HubRows}
use Rattle.hub_book.specs.AddHubContract.{HubCall, contracts_made}

-- the contracts made: "Quantities add up to the hub's", they are rows of the hub, and the book's form has room for them
pub record HubMade (q : HubCall) : Type 0 where
  pub adds-up : quantities (contracts_made q) ≡ q.quantity
  pub rows : HubRows q.nodes q.sink q.quantity q.hub-nodes (contracts_made q)
  pub fitting : Each (ContractFits (end_width (book_form_in q.book))) (contracts_made q)

pub record Grown (q : HubCall) (file : List ℕ) : Type 0 where
  pub accepted : first (book_checks q.nodes file) ≡ passed
  pub form-kept : book_form_in file ≡ book_form_in q.book
  -- "the rest join the book's end"
  pub contracts : book_in file ≡ book_in q.book ++ contracts_made q
  -- "The test and the settlement take only the resulting contracts": flows and exact totals are the old book's and those of the contracts made, together
  pub flows : (f : Factors) (t : Period) (k : ℕ)
      → total_flow f (of_period t (book_in file)) k ≡ total_flow f (of_period t (book_in q.book)) k +ℤ total_flow f (of_period t (contracts_made q)) k
  pub totals : (f : Factors) (p : List ℕ) (t : Period)
      → exact_total f p (of_period t (book_in file)) ≡ exact_total f p (of_period t (book_in q.book)) +ℤ exact_total f p (of_period t (contracts_made q))
