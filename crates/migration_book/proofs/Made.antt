-- What a call that the checks accept makes: a book that is accepted, in the form given, that reads as the old contracts and the new ones.
use mathlib.Core.Path.{◌≡◌, sym, ap, ◌∙◌}
use mathlib.Core.List.{◌∷◌}
use Prim.Native.Nat.{◌≤◌}
use lib.ListN.{length}
use Rattle.lists.proofs.Lists.{each-list_to}
use Rattle.bits.proofs.Bytes.{bytes_below}
use Rattle.bits.specs.Bits.{Bytes}
use Rattle.tariff.specs.declared.contracts.Contract.{Contract}
use Rattle.tariff.specs.Refusals.{passed}
use Rattle.tariff.specs.Refusals.{first}
use Rattle.tariff.specs.Units.{max_contracts}
use Rattle.tariff.specs.ContractRules.{period_of}
use Rattle.tariff.proofs.Checks.{passed_cons, passed_append}
use Rattle.layouts.specs.Forms.{end_width}
use Rattle.layouts.specs.BookFile.{book_file, book_form_in, contract_count_in, contract_at, book_in}
use Rattle.layouts.proofs.BookFile.{book-read, book-fits}
use Rattle.book_rules.specs.BookChecks.{contract_checks, own_checks}
use Rattle.book_rules.proofs.Accepted.{contracts-pass, own_parts, own_passes, own_accepted}
use Rattle.book_rules.proofs.Making.{Made, book-made}
use Rattle.book_growth.proofs.Keeping.{room-parts}
use Rattle.migration_rules.specs.Transfers.{loss, load_exceeded}
use Rattle.migration_rules.proofs.Alike.{loads-within}
use Rattle.migration_book.specs.MigrateLoad.{MigrateLoadCall, rows_given, contracts_grown, migrate_load_checked, book_migrated}
use Rattle.migration_book.proofs.Passing.{input_of, room_for, split, input_figures, input_own}
use Rattle.migration_book.proofs.Accepted.{grown_fits, grown_passes}

module _ (q : MigrateLoadCall) (pass : migrate_load_checked q ≡ passed) where
  input_passed : first (input_of q) ≡ passed
  input_passed = (passed_append (input_of q) _ (sym (ap first (split q)) ∙ pass)).0

  rest-passed : first (load_exceeded (loss (rows_given q)) q.loads ∷ room_for q) ≡ passed
  rest-passed = (passed_append (input_of q) _ (sym (ap first (split q)) ∙ pass)).1

  few-grown : length (contracts_grown q) ≤ max_contracts
  few-grown = (room-parts (book_form_in q.book) (length (contracts_grown q)) (length q.place) (passed_cons _ _ rest-passed).1).0

  pub book-grown : Made (book_form_in q.book) q.nodes (contracts_grown q)
  book-grown =
      let f = book_form_in q.book in
      let figures = input_figures q input_passed in
      let own = (own_parts q.nodes q.book (input_own q input_passed)).1 in
      let within = loads-within (loss (rows_given q)) q.loads (passed_cons _ _ rest-passed).0 in
      let t = period_of q.period in
      book-made f q.nodes (contracts_grown q) few-grown
      (grown_fits (loss (rows_given q)) q.loads figures.few within t (end_width f) (book_in q.book) (book-fits q.book))
      (grown_passes (loss (rows_given q)) q.loads figures.few within t q.nodes (book_in q.book)
      (each-list_to (λ (c : Contract). first (contract_checks q.nodes c) ≡ passed) (contract_count_in q.book) (contract_at q.book) (contracts-pass q.nodes q.book own)))

  pub new-book_accepted : first (own_checks q.nodes (book_migrated q)) ≡ passed
  new-book_accepted = own_passes q.nodes (book_migrated q) (own_parts q.nodes q.book (input_own q input_passed)).0 book-grown.accepted

  -- where the contracts are as they were, so are the bytes
  pub bytes_same : Bytes q.book → contracts_grown q ≡ book_in q.book → book_migrated q ≡ q.book
  bytes_same b e =
      let own = own_accepted q.nodes q.book (input_own q input_passed) in
      ap (book_file (book_form_in q.book)) e ∙ book-read q.book (bytes_below q.book b) own.size own.spare
