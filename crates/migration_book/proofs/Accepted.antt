-- The grown book: each contract fits, and passes its own checks where the base contract does.
use mathlib.Core.Path.{◌≡◌, sym, ap, ◌∙◌}
use mathlib.Core.List.{List, [], ◌∷◌, ◌++◌}
use Prim.Native.Nat.{ℕ, ◌+◌, ◌≤◌, ◌<◌}
use native.Mathlib.Nat.{le_trans}
use native.Mathlib.Omega.{arith}
use borrow.Author.Tests.{lt-leb, ne_eqb, le-ltb}
use lib.ListN.{length, length-append}
use Rattle.lists.specs.Lent.{overwrite}
use Rattle.lists.specs.Lists.{Each}
use Rattle.lists.proofs.Lists.{each_append, each-list_to, length-list_to}
use Rattle.tariff.specs.declared.contracts.Contract.{Contract}
use Rattle.tariff.specs.declared.contracts.Period.{Period}
use Rattle.tariff.specs.declared.units.Transfer.{Transfer}
use Rattle.tariff.specs.Refusals.{passed}
use Rattle.tariff.specs.Refusals.{first}
use Rattle.tariff.specs.Units.{max_entities, max_contracts, max_quantity}
use Rattle.tariff.proofs.Checks.{first_passes, last-passes}
use Rattle.layouts.specs.declared.forms.Form.{Form}
use Rattle.layouts.specs.Forms.{end_width}
use Rattle.layouts.specs.BookFile.{book_bytes_of, book_file, contract_in}
use Rattle.layouts.specs.BookTable.{ContractFits}
use Rattle.layouts.proofs.BookFile.{book-written, contract-in_fits}
use Rattle.book_rules.specs.BookChecks.{contract_checks}
use Rattle.book_rules.specs.Inner.{book_front}
use Rattle.book_rules.proofs.Accepted.{contract-in_range}
use Rattle.book_rules.proofs.Making.{front_ends}
use Rattle.migration_rules.specs.ContractRules.{gained, countered, new_book}
use Rattle.migration_rules.specs.Inner.{Within}
use Rattle.migration_rules.proofs.Books.{all-each}
use Rattle.migration_transfers.specs.Squares.{lost_in}
use Rattle.book_growth.specs.Inner.{Appended}
use Rattle.migration_pairs.specs.Inner.{MigrationReady}
use Rattle.migration_pairs.proofs.Pairs.{fits-gained, fits-countered}
use Rattle.migration_book.specs.Inner.{contracts_to, new_to}

-- a contract of ends below the node count and of a quantity in range passes its own checks
passes_of : (n : ℕ) (c : Contract) → c.source < n → c.sink < n → 0 < c.quantity.0 → c.quantity.0 ≤ max_quantity → first (contract_checks n c) ≡ passed
unfolding contract_checks
passes_of n c hs ht some most =
    first_passes _ _ (rw (lt-leb n c.source hs) (lt-leb n c.sink ht))
    ∙ last-passes _ (rw (ne_eqb c.quantity.0 0 (λ e. omega arith)) (le-ltb max_quantity c.quantity.0 most))

module _ (lost : ℕ → ℕ → ℕ) (loads : List ℕ) (few : length loads ≤ max_entities) (ok : Within lost loads) (t : Period) where
  -- whatever holds of each contract of a book and of each pair made from one holds of the grown book
  grown_each : (P : Contract → Type 0) (book : List Contract) → Each P book
      → Each (λ (c : Contract). (j q : ℕ) → 0 < j → j ≤ length loads → 0 < q → q ≤ c.quantity.0 → P (gained c j q) × P (countered c q)) book → Each P (new_book lost loads t book)
  unfolding new_book
  grown_each P book old each = each_append P book _ old (all-each t lost loads P ok book each)

  pub grown_fits : (w : ℕ) (book : List Contract) → Each (ContractFits w) book → Each (ContractFits w) (new_book lost loads t book)
  grown_fits w book fits = grown_each (ContractFits w) book fits (pairs book fits)
    where
      pairs : (book : List Contract) → Each (ContractFits w) book
          → Each (λ (c : Contract). (j q : ℕ) → 0 < j → j ≤ length loads → 0 < q → q ≤ c.quantity.0 → ContractFits w (gained c j q) × ContractFits w (countered c q)) book
      pairs [] h = tt
      pairs (c ∷ cs) h = ((λ j q some most above within. (fits-gained w c h.0 q within j (le_trans most few), fits-countered w c h.0 q within)), pairs cs h.1)

  -- ends as the base contract's, and 1 to its quantity
  pub grown_passes : (n : ℕ) (book : List Contract) → Each (λ (c : Contract). first (contract_checks n c) ≡ passed) book
      → Each (λ (c : Contract). first (contract_checks n c) ≡ passed) (new_book lost loads t book)
  grown_passes n book own = grown_each (λ (c : Contract). first (contract_checks n c) ≡ passed) book own (pairs book own)
    where
      pairs : (book : List Contract) → Each (λ (c : Contract). first (contract_checks n c) ≡ passed) book
          → Each (λ (c : Contract). (j q : ℕ) → 0 < j → j ≤ length loads → 0 < q → q ≤ c.quantity.0
          → (first (contract_checks n (gained c j q)) ≡ passed) × (first (contract_checks n (countered c q)) ≡ passed)) book
      pairs [] h = tt
      pairs (c ∷ cs) h =
          let r = contract-in_range n c h.0 in (
            (λ j q some most above within. (
              passes_of n (gained c j q) r.source-below r.sink-below above (le_trans within r.quantity-sized),
              passes_of n (countered c q) r.sink-below r.source-below above (le_trans within r.quantity-sized),
            )),
            pairs cs h.1,
          )

-- so many contracts, and their bytes
pub grown_length : (f : Form) (book : List ℕ) (t : Period) (square : List (List Transfer)) (loads : List ℕ) (m : ℕ)
    → length (new_book (lost_in square) loads t (contracts_to f book m)) ≡ m + length (new_to f book t square loads m)
unfolding new_book
grown_length f book t square loads m =
    length-append (contracts_to f book m) (new_to f book t square loads m) ∙ ap (λ (n : ℕ). n + length (new_to f book t square loads m)) (length-list_to m (contract_in f book))

pub book-fits : (f : Form) (book : List ℕ) (t : Period) (square : List (List Transfer)) (loads : List ℕ) (m : ℕ) → MigrationReady square loads
    → Each (ContractFits (end_width f)) (new_book (lost_in square) loads t (contracts_to f book m))
book-fits f book t square loads m ok =
    grown_fits (lost_in square) loads ok.few ok.losses t (end_width f) (contracts_to f book m)
    (each-list_to (ContractFits (end_width f)) m (contract_in f book) (λ i h. contract-in_fits f book i))

pub file-size : (f : Form) (cs : List Contract) → length cs ≤ max_contracts → Each (ContractFits (end_width f)) cs → length (book_file f cs) ≡ book_bytes_of f (length cs)
file-size f cs few fits = (book-written f cs (omega arith) fits).size

-- the old contracts kept, and the new ones stored behind them
pub grown_written : (f : Form) (m count next : ℕ) (old new : List Contract) (file middle exit : List ℕ) → length old ≡ count → m ≡ length old + length new
    → Each (ContractFits (end_width f)) (old ++ new) → middle ≡ overwrite (book_front f m old) file → Appended f count new middle exit next
    → exit ≡ overwrite (book_file f (old ++ new)) file
grown_written f m count next old new file middle exit long all fits kept n =
    front_ends f m file (old ++ new) exit (length-append old new ∙ sym all) fits (n.front m file old long kept)
