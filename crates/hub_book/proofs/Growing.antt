-- What is known of a call whose checks pass: the contracts made fit the book's form and pass their own checks, so the grown book is one.
use mathlib.Core.Path.{◌≡◌, sym, ap, ap₂, subst, ◌∙◌}
use mathlib.Core.Bool.{false}
use mathlib.Core.List.{List, [], ◌∷◌, ◌++◌, append_assoc}
use Prim.Native.Nat.{ℕ, ◌+◌, ◌≤◌, ◌<◌}
use native.Mathlib.Omega.{arith}
use borrow.Author.Tests.{le-ltb, ltb-false, leb-false, lt-leb}
use lib.Dec.{leb, ltb, eqb}
use lib.ListN.{length, length-append}
use Rattle.lists.specs.Lists.{any_of, Each, list_to}
use Rattle.lists.proofs.Lists.{length-list_to, get_d_list_to, each_append, each-list_to, each_at}
use Rattle.lists.proofs.Search.{neither}
use Rattle.tariff.specs.declared.contracts.Contract.{Contract}
use Rattle.tariff.specs.declared.refusals.Refusal.{Refusal}
use Rattle.std.specs.Prelude.{Err}
use Rattle.tariff.specs.Refusals.{passed}
use Rattle.tariff.specs.Refusals.{Check, first}
use Rattle.tariff.specs.Checks.{node_number, quantity_range}
use Rattle.tariff.specs.Units.{max_nodes, max_contracts, max_holder, max_quantity, max_hub_nodes}
use Rattle.tariff.proofs.Checks.{first_passes, last-passes, append_refuses, append_passes, passed_cons, passed_append, nodes-few_of}
use Rattle.layouts.specs.declared.forms.Form.{Form}
use Rattle.layouts.specs.Forms.{end_width}
use Rattle.layouts.specs.BookFile.{book_bytes_of, contract_count_in, book_form_in, contract_at, book_in}
use Rattle.layouts.specs.BookTable.{ContractFits}
use Rattle.layouts.proofs.BookFile.{book-fits, length-book_in, ends-fewer}
use Rattle.book_rules.specs.BookChecks.{contract_checks, own_checks}
use Rattle.book_rules.specs.Inner.{book_front}
use Rattle.book_rules.proofs.Accepted.{Accepted, own_parts, own_accepted, contracts-pass}
use Rattle.book_rules.proofs.Bytes.{book-bytes}
use Rattle.book_rules.proofs.Making.{Made, book-made, in_range_fits}
use Rattle.hub_rules.specs.Hubs.{hub_shape, hub_twice, hub_contract}
use Rattle.hub_rules.specs.Inner.{IsHub, listed_share, listed_contracts}
use Rattle.book_growth.specs.Inner.{growth_checks}
use Rattle.hub_rules.proofs.Places.{not_same, hub-more}
use Rattle.hub_rules.proofs.Sharing.{is-hub}
use Rattle.hub_rules.proofs.Rows.{rows-every, rows-stop}
use Rattle.hub_rules.proofs.Contracts.{share-most, rows_few, contracts-are}
use Rattle.hub_shares.specs.Inner.{RowsTo}
use Rattle.hub_book.specs.declared.Terms.{Terms}
use Rattle.hub_book.specs.AddHubContract.{HubCall, contracts_made, count_grown, hub_ends, hub_contract_checks, hub_contract_checked, book_grown}
use Rattle.hub_book.specs.Inner.{term_checks, given_checks, row_contract, grown_front}

abbrev pub terms_of : HubCall → Terms
terms_of q = record { kind = q.kind; period = q.period; holder = q.holder; sink = q.sink }

-- the checks that do not ask how many contracts are made
abbrev pub given_of : HubCall → List Check
given_of q = given_checks q.nodes q.book (terms_of q) q.hub-nodes q.hub-weights q.quantity

-- what they leave
pub record Given (q : HubCall) : Type 0 where
  pub own : first (own_checks q.nodes q.book) ≡ passed
  pub held : q.holder ≤ max_holder
  pub hub : IsHub (hub_ends q) q.hub-nodes q.hub-weights
  pub sunk : q.sink < hub_ends q
  pub sized : q.quantity ≤ max_quantity

pub given_is : (q : HubCall) → first (given_of q) ≡ passed → Given q
unfolding given_checks term_checks any_of
given_is q e =
    let own = passed_append (own_checks q.nodes q.book) _ e in
    let terms = passed_cons _ _ own.1 in
    let held = passed_cons _ _ terms.1 in
    let listed = passed_cons _ _ held.1 in
    let sunk = passed_cons _ _ listed.1 in
    let sized = passed_cons _ _ sunk.1 in
    let shaped = passed_cons _ _ sized.1 in
    let once = passed_cons _ _ shaped.1 in
    record {
      own = own.0;
      held = ltb-false max_holder q.holder held.0;
      hub = is-hub (hub_ends q) q.hub-nodes q.hub-weights (record { below = listed.0; shaped = shaped.0; once = once.0 });
      sunk = leb-false (hub_ends q) q.sink (neither (leb (hub_ends q) q.sink) false sunk.0).0;
      sized = ltb-false max_quantity q.quantity (neither (eqb q.quantity 0) (ltb max_quantity q.quantity) sized.0).1;
    }

module _ (q : HubCall) where
  -- the last two checks
  abbrev growth : List Check
  growth = growth_checks (book_form_in q.book) (count_grown q) (length q.place)

  all-checks : hub_contract_checks q ≡ given_of q ++ growth
  unfolding hub_contract_checks given_checks term_checks
  all-checks =
      let shape = hub_shape q.hub-nodes q.hub-weights ∷ hub_twice q.hub-nodes ∷ [] in
      sym (append_assoc (own_checks q.nodes q.book) (term_checks (hub_ends q) (terms_of q) q.hub-nodes q.quantity ++ shape) growth)

  pub given-refuses : (r : Refusal) → first (given_of q) ≡ Err r → hub_contract_checked q ≡ Err r
  given-refuses r e = ap first all-checks ∙ append_refuses (given_of q) growth r e

  pub passed_parts : hub_contract_checked q ≡ passed → (first (given_of q) ≡ passed) × (count_grown q ≤ max_contracts)
  passed_parts e =
      let parts = passed_append (given_of q) growth (sym (ap first all-checks) ∙ e) in
      (parts.0, ltb-false max_contracts (count_grown q) (passed_cons _ _ parts.1).0)

  module _ (given : first (given_of q) ≡ passed) where
    pub growth_next : hub_contract_checked q ≡ first growth
    growth_next = ap first all-checks ∙ append_passes (given_of q) growth given

module _ (q : HubCall) (g : Given q) where
  abbrev form : Form
  form = book_form_in q.book

  abbrev made : ℕ → Contract
  made m = hub_contract q.kind q.period q.holder q.sink m (listed_share q.hub-nodes q.hub-weights q.quantity m)

  pub few-nodes : q.nodes ≤ max_nodes
  few-nodes = nodes-few_of q.nodes (own_parts q.nodes q.book g.own).0

  pub accepted : Accepted q.nodes q.book
  accepted = own_accepted q.nodes q.book g.own

  -- of the nodes that the form has room for as of all
  pub hub-of_nodes : IsHub q.nodes q.hub-nodes q.hub-weights
  hub-of_nodes = hub-more (hub_ends q) q.nodes q.hub-nodes q.hub-weights (ends-fewer form q.nodes) g.hub

  -- the contracts, as the code finds them
  made_is : contracts_made q ≡ listed_contracts q.kind q.period q.holder q.sink q.hub-nodes q.hub-weights q.quantity q.nodes
  made_is = contracts-are q.nodes q.hub-nodes q.hub-weights hub-of_nodes q.quantity q.kind q.period q.holder q.sink

  made_below : contracts_made q ≡ listed_contracts q.kind q.period q.holder q.sink q.hub-nodes q.hub-weights q.quantity (hub_ends q)
  made_below =
      made_is
      ∙ rows-stop q.kind q.period q.holder q.sink q.hub-nodes q.hub-weights q.quantity (hub_ends q) q.nodes (ends-fewer form q.nodes)
      g.hub.low

  -- what holds of the contract of each node with a share holds of all
  each-made : (P : Contract → Type 0) → ((m : ℕ) → m < hub_ends q → 0 < (made m).quantity.0 → (made m).quantity.0 ≤ max_quantity → P (made m))
      → Each P (contracts_made q)
  each-made P h =
      rw made_below (rows-every q.kind q.period q.holder q.sink q.hub-nodes q.hub-weights q.quantity P (hub_ends q)
      (λ m b p. h m b p (omega (arith, share-most (hub_ends q) q.hub-nodes q.hub-weights g.hub q.quantity m b, g.sized))))

  pub made_fit : Each (ContractFits (end_width form)) (contracts_made q)
  made_fit = each-made (ContractFits (end_width form)) (λ m b p most.
      in_range_fits form q.nodes (made m) few-nodes (record { source-below = b; sink-below = g.sunk; quantity-sized = most }) g.held)

  made_pass : Each (λ c. first (contract_checks q.nodes c) ≡ passed) (contracts_made q)
  unfolding contract_checks
  made_pass = each-made (λ c. first (contract_checks q.nodes c) ≡ passed) pass
    where
      pass : (m : ℕ) → m < hub_ends q → 0 < (made m).quantity.0 → (made m).quantity.0 ≤ max_quantity → first (contract_checks q.nodes (made m)) ≡ passed
      pass m b p most =
          let from : m < q.nodes = omega (arith, ends-fewer form q.nodes) in
          let to : q.sink < q.nodes = omega (arith, g.sunk, ends-fewer form q.nodes) in
          let ends : (node_number q.nodes m q.sink).fails ≡ false = rw (lt-leb _ _ from, lt-leb _ _ to) in
          let size : (quantity_range (made m).quantity.0).fails ≡ false
          = rw (not_same (made m).quantity.0 0 (λ z. omega arith)) (le-ltb max_quantity (made m).quantity.0 most) in
          first_passes _ _ ends ∙ last-passes _ size

  count-all : length (book_in q.book ++ contracts_made q) ≡ count_grown q
  count-all = length-append (book_in q.book) (contracts_made q) ∙ ap (λ (n : ℕ). n + length (contracts_made q)) (length-book_in q.book)

  pub all_fit : Each (ContractFits (end_width form)) (book_in q.book ++ contracts_made q)
  all_fit = each_append (ContractFits (end_width form)) (book_in q.book) (contracts_made q) (book-fits q.book) made_fit

  pub grown : count_grown q ≤ max_contracts → Made form q.nodes (book_in q.book ++ contracts_made q)
  grown few =
      book-made form q.nodes (book_in q.book ++ contracts_made q) (omega (arith, count-all)) all_fit
      (each_append (λ c. first (contract_checks q.nodes c) ≡ passed) (book_in q.book) (contracts_made q)
      (each-list_to (λ c. first (contract_checks q.nodes c) ≡ passed) (contract_count_in q.book) (contract_at q.book)
      (contracts-pass q.nodes q.book (own_parts q.nodes q.book g.own).1))
      made_pass)

  pub length-grown : count_grown q ≤ max_contracts → length (book_grown q) ≡ book_bytes_of form (count_grown q)
  length-grown few = (grown few).size ∙ ap (book_bytes_of form) count-all

  -- ---- with the rows in two tables

  module _ (rows : ℕ) (sources quantities : List ℕ) (held : RowsTo q.hub-nodes q.hub-weights q.quantity q.nodes rows sources quantities) where
    abbrev row_at : ℕ → Contract
    row_at = row_contract (terms_of q) sources quantities

    listed-rows : list_to rows row_at ≡ contracts_made q
    listed-rows = held q.kind q.period q.holder q.sink ∙ sym made_is

    pub rows-many : rows ≡ length (contracts_made q)
    rows-many = sym (length-list_to rows row_at) ∙ ap length listed-rows

    pub rows-at_most : rows ≤ max_hub_nodes
    rows-at_most =
        omega (
          arith,
          rows-many,
          ap length made_is,
          rows_few q.nodes q.hub-nodes q.hub-weights hub-of_nodes q.quantity q.kind q.period q.holder q.sink,
          g.hub.few-nodes,
        )

    pub count-is : contract_count_in q.book + rows ≡ count_grown q
    count-is = ap (λ (n : ℕ). contract_count_in q.book + n) rows-many

    pub row_fits : (i : ℕ) → i < rows → ContractFits (end_width form) (row_at i)
    row_fits i h =
        let P = ContractFits (end_width form) in
        let all : Each P (list_to rows row_at) = rw listed-rows made_fit in
        subst P (get_d_list_to rows row_at i (row_at 0) h) (each_at P (list_to rows row_at) i (row_at 0) all (rw (length-list_to rows row_at) h))

    -- the front with all rows is the file
    pub front-is : grown_front form (contract_count_in q.book) (terms_of q) rows sources quantities q.book ≡ book_grown q
    front-is =
        ap₂ (λ (m : ℕ) (cs : List Contract). book_front form m (book_in q.book ++ cs)) (count-is ∙ sym count-all) listed-rows
        ∙ book-bytes form (book_in q.book ++ contracts_made q) all_fit
