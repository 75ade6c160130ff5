-- THE THEOREMS of adding a hub contract (document 02, paper 7), each for every call that the checks accept. What they stand on is in Growing.antt and Sums.antt.
use mathlib.Core.Path.{◌≡◌}
use Rattle.tariff.specs.Refusals.{passed}
use Rattle.layouts.specs.BookFile.{book_in}
use Rattle.hub_rules.proofs.Contracts.{add_up, rows_of}
use Rattle.hub_book.specs.AddHubContract.{HubCall, contracts_made, hub_contract_checked, book_grown}
use Rattle.hub_book.specs.Theorems.{HubMade, Grown}
use Rattle.hub_book.proofs.Growing.{passed_parts, given_is, hub-of_nodes, made_fit, grown}
use Rattle.hub_book.proofs.Sums.{flow-both, total-both}

module _ (q : HubCall) (pass : hub_contract_checked q ≡ passed) where
  pub hub-made : HubMade q
  hub-made =
      let g = given_is q (passed_parts q pass).0 in
      let hub = hub-of_nodes q g in
      record {
        adds-up = add_up q.nodes q.hub-nodes q.hub-weights hub q.quantity q.kind q.period q.holder q.sink;
        rows = rows_of q.nodes q.hub-nodes q.hub-weights hub q.quantity q.kind q.period q.holder q.sink;
        fitting = made_fit q g;
      }

  pub grown_book : Grown q (book_grown q)
  grown_book =
      let made = grown q (given_is q (passed_parts q pass).0) (passed_parts q pass).1 in
      record {
        accepted = made.accepted;
        form-kept = made.form;
        contracts = made.contracts;
        flows = λ f t k. flow-both (book_in (book_grown q)) (book_in q.book) (contracts_made q) made.contracts t f k;
        totals = λ f p t. total-both (book_in (book_grown q)) (book_in q.book) (contracts_made q) made.contracts t f p;
      }
