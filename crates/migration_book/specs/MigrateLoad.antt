-- Migrating load (document 02, papers 5 and 9): "001's monthly transfer for one period and 1 to 16 load-serving entities (LSEs)".
use Rattle.std.specs.Prelude.{List, [], ◌∷◌, ◌++◌, ℕ, length}
use Rattle.lists.specs.Lent.{Lent, before, after}
use Rattle.tariff.specs.declared.contracts.Contract.{Contract}
use Rattle.tariff.specs.Refusals.{Checked}
use Rattle.tariff.specs.Refusals.{Check, first}
use Rattle.tariff.specs.Checks.{period_number, contract_count, short_table}
use Rattle.tariff.specs.ContractRules.{period_of}
use Rattle.layouts.specs.Writing.{WriteAnswer}
use Rattle.layouts.specs.BookFile.{book_bytes_of, book_file, book_form_in, book_in}
use Rattle.layouts.specs.Writing.{Writes, WritesForC}
use Rattle.book_rules.specs.BookChecks.{own_checks}
use Rattle.migration_rules.specs.Transfers.{MigrationRow, RowLists, migration_rows_in, loss, range_checks, load_exceeded}
use Rattle.migration_rules.specs.ContractRules.{new_book}

-- the node count, the period, the book's bytes, the rows' lists, the LSEs' loads, and the place for the new book's bytes as it is at entry
pub record MigrateLoadCall : Type 0 where
  pub nodes : ℕ
  pub period : ℕ
  pub book : List ℕ
  pub lists : RowLists
  pub loads : List ℕ
  pub place : List ℕ

abbrev pub migrate_load_call : ℕ → ℕ → List ℕ → RowLists → List ℕ → Lent (List ℕ) → MigrateLoadCall
migrate_load_call n t book lists loads file = record { nodes = n; period = t; book = book; lists = lists; loads = loads; place = before file }

module _ (q : MigrateLoadCall) where
  abbrev pub rows_given : List MigrationRow
  rows_given = migration_rows_in q.lists

  -- the old contracts, then the new ones
  abbrev pub contracts_grown : List Contract
  contracts_grown = new_book (loss rows_given) q.loads (period_of q.period) (book_in q.book)

  -- "After 17 and the book's own checks, 22 ..; 23 follows ..; 10, for a book that grows too long, then 9, are last."
  unfoldable pub migrate_load_checks : List Check
  migrate_load_checks =
      period_number q.period
      ∷ own_checks q.nodes q.book
      ++ range_checks q.lists q.loads
      ++ load_exceeded (loss rows_given) q.loads
      ∷ contract_count (length contracts_grown)
      ∷ short_table (length q.place) (book_bytes_of (book_form_in q.book) (length contracts_grown))
      ∷ []

  abbrev pub migrate_load_checked : Checked
  migrate_load_checked = first migrate_load_checks

  -- the file written; "a book made from a book keeps its form"
  abbrev pub book_migrated : List ℕ
  book_migrated = book_file (book_form_in q.book) contracts_grown

-- the promise: the answer, and the place at exit
abbrev pub MigratesLoad : MigrateLoadCall → WriteAnswer → List ℕ → Type 0
MigratesLoad q answer exit = Writes (migrate_load_checked q) (book_migrated q) q.place answer exit

abbrev pub MigratesLoadForC : MigrateLoadCall → ℕ → List ℕ → Lent ℕ → Type 0
MigratesLoadForC q number exit bytes = WritesForC (migrate_load_checked q) (book_migrated q) q.place (before bytes) number exit (after bytes)
