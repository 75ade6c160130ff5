-- THE THEOREMS of migrating load (document 02, paper 5), each of every call that the checks accept. Statements only: the proofs are in Made.antt and in migration_rules.
use mathlib.Core.Path.{◌≡◌}
use Prim.Native.Nat.{ℕ}
use lib.IntN.{pos}
use lib.Signed.{◌≤ℤ◌}
use Rattle.bits.specs.Bits.{Bytes}
use Rattle.tariff.specs.Refusals.{passed}
use Rattle.tariff.specs.Refusals.{first}
use Rattle.tariff.specs.ContractRules.{period_of}
use Rattle.layouts.specs.BookFile.{book_form_in, book_in}
use Rattle.book_rules.specs.BookChecks.{own_checks}
use Rattle.migration_rules.specs.Transfers.{net}
use Rattle.migration_rules.specs.Theorems.{MigrationKept}
use Rattle.migration_rules.proofs.Theorems.{migration_keeps, nothing_moved}
use Rattle.migration_book.specs.MigrateLoad.{MigrateLoadCall, rows_given, contracts_grown, migrate_load_checked, book_migrated}
use Rattle.migration_book.proofs.Made.{book-grown, bytes_same}
use Rattle.migration_book.proofs.Made as M

module _ (q : MigrateLoadCall) (pass : migrate_load_checked q ≡ passed) where
  -- the new book is accepted for the same node count
  pub new-book_accepted : first (own_checks q.nodes (book_migrated q)) ≡ passed
  new-book_accepted = M.new-book_accepted q pass

  -- "a book made from a book keeps its form"
  pub new-book_form : book_form_in (book_migrated q) ≡ book_form_in q.book
  new-book_form = (book-grown q pass).form

  -- it reads as the old contracts and then the new ones
  pub new-book_reads : book_in (book_migrated q) ≡ contracts_grown q
  new-book_reads = (book-grown q pass).contracts

  -- "Every constraint's flow is unchanged, so the new book passes exactly when the old one did", of the bytes written
  pub new-book_keeps : MigrationKept (book_in q.book) (book_in (book_migrated q))
  new-book_keeps = rw (book-grown q pass).contracts (migration_keeps (period_of q.period) (rows_given q) q.loads (book_in q.book))

  -- no net above 0: the book's own bytes
  pub nothing_moved_bytes : Bytes q.book → ((i j : ℕ) → net (rows_given q) i j ≤ℤ pos 0) → book_migrated q ≡ q.book
  nothing_moved_bytes bytes none = bytes_same q pass bytes (nothing_moved (period_of q.period) (rows_given q) q.loads none (book_in q.book))
