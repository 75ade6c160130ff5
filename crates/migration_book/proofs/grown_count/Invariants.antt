-- The invariant of `migration_book::grown_count`.
use mathlib.Core.Path.{◌≡◌}
use Prim.Native.Nat.{◌+◌, ◌*◌, ◌≤◌}
use lib.ListN.{length}
use Rattle.migration_book.specs.Inner.{new_to}
use Rattle.migration_book.proofs.grown_count.Given as goal

abbrev pub invariant-loop-i : goal.invariant-loop-i
invariant-loop-i l = (l.grown ≡ l.migration.contracts.count + length (new_to l.migration.contracts.form l.migration.contracts.file.now l.migration.period l.square l.migration.loads.now l.i)) × (l.grown ≤ l.migration.contracts.count + 32 * l.i)
