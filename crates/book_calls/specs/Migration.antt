-- Document 02, paper 5, over what `migrate_load` and its C function promise: of the first bytes of the place, as many as it gives. Statements only.
use Rattle.std.specs.Prelude.{List, ℕ, take, Ok}
use Rattle.lists.specs.Lent.{Lent, after}
use Rattle.migration_book.specs.MigrateLoad.{MigrateLoadCall, MigratesLoad, MigratesLoadForC}
use Rattle.book_calls.specs.Alike.{AnsweredAlike}

-- THE STATEMENTS. m bytes are given and x is left in the place.
pub record MigrationCalls : Type 0 where
  -- "Every constraint's flow is unchanged, so the new book passes exactly when the old one did": what test_book, find_flows and settle_hour, and their C functions,
  -- answer on the bytes written is what they answer on the book; of settle_hour the exact total
  pub migrated_answered_alike : (q : MigrateLoadCall) (m : ℕ) (x : List ℕ) → MigratesLoad q (Ok m) x → AnsweredAlike q.nodes (take m x) q.book
  -- the same of `crr_migrate_load`, where it answers 0
  pub crr_migrated_answered_alike : (q : MigrateLoadCall) (x : List ℕ) (u : Lent ℕ) → MigratesLoadForC q 0 x u
      → AnsweredAlike q.nodes (take (after u) x) q.book
