-- Paper 5 of the bytes written: the new book and the old one are alike.
use mathlib.Core.Path.{◌≡◌, sym, ap, ◌∙◌}
use mathlib.Core.List.{List}
use Prim.Native.Nat.{ℕ}
use lib.ListN.{take}
use Rattle.lists.specs.Lent.{before, after}
use Rattle.std.specs.Prelude.{Ok}
use Rattle.tariff.specs.Refusals.{passed}
use Rattle.tariff.specs.Refusals.{first}
use Rattle.tariff.proofs.Checks.{passed_append}
use Rattle.layouts.proofs.Writing.{writes_told, written-by}
use Rattle.book_rules.specs.BookChecks.{own_checks}
use Rattle.migration_book.specs.MigrateLoad.{MigrateLoadCall, migrate_load_checked, book_migrated, MigratesLoad}
use Rattle.migration_book.proofs.Passing.{input_of, split, input_own}
use Rattle.migration_book.proofs.Theorems.{new-book_accepted, new-book_keeps}
use Rattle.book_calls.specs.Alike.{AnsweredAlike}
use Rattle.book_calls.specs.Migration.{MigrationCalls}
use Rattle.book_calls.proofs.Alike.{answered-alike}

module _ (q : MigrateLoadCall) (pass : migrate_load_checked q ≡ passed) where
  old-accepted : first (own_checks q.nodes q.book) ≡ passed
  old-accepted = input_own q (passed_append (input_of q) _ (sym (ap first (split q)) ∙ pass)).0

  alike : AnsweredAlike q.nodes (book_migrated q) q.book
  alike =
      let kept = new-book_keeps q pass in
      answered-alike q.nodes (book_migrated q) q.book
      (record { accepted = new-book_accepted q pass; accepted-too = old-accepted; flows-same = kept.flows-kept; totals-same = kept.payment-kept })

written-alike : (q : MigrateLoadCall) (m : ℕ) (x : List ℕ) → MigratesLoad q (Ok m) x → AnsweredAlike q.nodes (take m x) q.book
written-alike q m x w = let told = writes_told (migrate_load_checked q) (book_migrated q) q.place m x w in rw told.1 (alike q told.0)

pub migration_calls : MigrationCalls
migration_calls =
    record {
      migrated_answered_alike = written-alike;
      crr_migrated_answered_alike = λ q x u w. written-alike q (after u) x (written-by (migrate_load_checked q) (book_migrated q) q.place (before u) x (after u) w);
    }
