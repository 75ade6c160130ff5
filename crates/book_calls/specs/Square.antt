-- Document 02, paper 5, over what `net_transfers`, `migrate_load` and their C functions promise of the same rows. Statements only.
use Rattle.std.specs.Prelude.{◌≡◌, List, ℕ, ◌+◌, ◌-◌, ◌*◌, ◌≤◌, length, get_or, take, ℤ, pos, nat_abs, Ok}
use Rattle.lists.specs.Lent.{Lent, after}
use Rattle.integers.specs.Sums.{max0}
use Rattle.tariff.specs.ContractRules.{period_of}
use Rattle.layouts.specs.BookFile.{book_file, book_form_in, book_in}
use Rattle.migration_rules.specs.ContractRules.{new_book}
use Rattle.migration_square.specs.NetTransfers.{NetsAnswer}
use Rattle.migration_square.specs.NetTransfers.{NetTransfersCall, NetsTransfers, NetsTransfersForC}
use Rattle.tariff.specs.Refusals.{passed}
use Rattle.migration_book.specs.MigrateLoad.{MigrateLoadCall, MigratesLoad, MigratesLoadForC}

-- calls for the same rows and as many LSEs
pub record SameRows (q : MigrateLoadCall) (s : NetTransfersCall) : Type 0 where
  pub entities-same : s.entities ≡ length q.loads
  pub lists-same : s.lists ≡ q.lists

-- what LSE i loses to LSE j, by the n by n cells given
unfoldable pub lost_by : ℕ → List ℤ → ℕ → ℕ → ℕ
lost_by n nets i j = nat_abs (max0 (get_or nets ((i - 1) * n + (j - 1)) (pos 0)))

-- the book's file with the contracts that follow those cells
abbrev pub book_by : MigrateLoadCall → List ℤ → List ℕ
book_by q nets = book_file (book_form_in q.book) (new_book (lost_by (length q.loads) nets) q.loads (period_of q.period) (book_in q.book))

-- THE STATEMENTS. m bytes are given and x is left in the book's place, y in the square's.
pub record SquareCalls : Type 0 where
  -- what migrating takes is netted, where the place suffices
  pub migrated_netted : (q : MigrateLoadCall) (s : NetTransfersCall) (m : ℕ) (x : List ℕ) (a : NetsAnswer) (y : List ℤ) → SameRows q s
      → s.entities * s.entities ≤ length s.place → MigratesLoad q (Ok m) x → NetsTransfers s a y → a ≡ passed
  -- "A gainer receives base quantity × net transfer over the loser's current load": the net transfers are the cells that `net_transfers` gives
  pub migrated_by_square : (q : MigrateLoadCall) (s : NetTransfersCall) (m : ℕ) (x : List ℕ) (y : List ℤ) → SameRows q s → MigratesLoad q (Ok m) x
      → NetsTransfers s passed y → take m x ≡ book_by q y
  -- the same of the C functions, where both answer 0
  pub crr_migrated_by_square : (q : MigrateLoadCall) (s : NetTransfersCall) (x : List ℕ) (u : Lent ℕ) (y : List ℤ) → SameRows q s → MigratesLoadForC q 0 x u
      → NetsTransfersForC s 0 y → take (after u) x ≡ book_by q y
