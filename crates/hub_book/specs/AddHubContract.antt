-- A hub contract added to a book (document 02, papers 7 and 9): "A contract sourced at a hub becomes point-to-point contracts (000, 36.8.4.1)".
use Rattle.std.specs.Prelude.{List, [], ◌∷◌, ◌++◌, ℕ, ◌+◌, length}
use Rattle.lists.specs.Lent.{Lent, before, after}
use Rattle.tariff.specs.declared.contracts.Contract.{Contract}
use Rattle.tariff.specs.Refusals.{Checked}
use Rattle.tariff.specs.Refusals.{Check, first}
use Rattle.tariff.specs.Checks.{kind_and_period, holder_range, quantity_range, contract_count, short_table, listed_nodes}
use Rattle.layouts.specs.Writing.{WriteAnswer}
use Rattle.layouts.specs.Forms.{ends_below_of}
use Rattle.layouts.specs.BookFile.{book_bytes_of, book_file, contract_count_in, book_form_in, book_in}
use Rattle.layouts.specs.Writing.{Writes, WritesForC}
use Rattle.book_rules.specs.BookChecks.{own_checks}
use Rattle.hub_rules.specs.Hubs.{hub_shape, hub_twice, hub_contracts}

-- the node count, the book's bytes, the contract's numbers, the hub's two lists, and the place for the new book's bytes as it is at entry
pub record HubCall : Type 0 where
  pub nodes : ℕ
  pub book : List ℕ
  pub kind : ℕ
  pub period : ℕ
  pub holder : ℕ
  pub hub-nodes : List ℕ
  pub hub-weights : List ℕ
  pub sink : ℕ
  pub quantity : ℕ
  pub place : List ℕ

abbrev pub hub_call : ℕ → List ℕ → ℕ → ℕ → ℕ → List ℕ → List ℕ → ℕ → ℕ → List ℕ → HubCall
hub_call n book kind period holder ns ws sink quantity place =
    record {
      nodes = n;
      book = book;
      kind = kind;
      period = period;
      holder = holder;
      hub-nodes = ns;
      hub-weights = ws;
      sink = sink;
      quantity = quantity;
      place = place;
    }

module _ (q : HubCall) where
  -- the contracts that the hub contract becomes
  abbrev pub contracts_made : List Contract
  contracts_made = hub_contracts q.kind q.period q.holder q.sink q.hub-nodes q.hub-weights q.quantity q.nodes

  -- how many the book then has
  abbrev pub count_grown : ℕ
  count_grown = contract_count_in q.book + length contracts_made

  -- "a narrow book's writer refuses an end above 255 by 11, as .. its hub entry a node or sink"
  abbrev pub hub_ends : ℕ
  hub_ends = ends_below_of (book_form_in q.book) q.nodes

  -- "After the book's own checks, 17, 18, 11 (the hub's nodes, then the sink) and 13, 24 .., then 25 .., then 10 if the book grows too long, then 9."
  unfoldable pub hub_contract_checks : List Check
  hub_contract_checks =
      own_checks q.nodes q.book
      ++ kind_and_period q.kind q.period
      ∷ holder_range q.holder
      ∷ listed_nodes hub_ends q.hub-nodes
      ∷ listed_nodes hub_ends (q.sink ∷ [])
      ∷ quantity_range q.quantity
      ∷ hub_shape q.hub-nodes q.hub-weights
      ∷ hub_twice q.hub-nodes
      ∷ contract_count count_grown
      ∷ short_table (length q.place) (book_bytes_of (book_form_in q.book) count_grown)
      ∷ []

  abbrev pub hub_contract_checked : Checked
  hub_contract_checked = first hub_contract_checks

  -- the file written: the book's contracts, then the hub's; "a book made from a book keeps its form"
  abbrev pub book_grown : List ℕ
  book_grown = book_file (book_form_in q.book) (book_in q.book ++ contracts_made)

-- the promise: the answer, and the place at exit
abbrev pub AddsHub : HubCall → WriteAnswer → List ℕ → Type 0
AddsHub q answer exit = Writes (hub_contract_checked q) (book_grown q) q.place answer exit

abbrev pub AddsHubForC : HubCall → ℕ → List ℕ → Lent ℕ → Type 0
AddsHubForC q number exit bytes = WritesForC (hub_contract_checked q) (book_grown q) q.place (before bytes) number exit (after bytes)
