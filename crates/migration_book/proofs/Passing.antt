-- Migration's checks, one part after the other, and what is known of a call that they accept.
use mathlib.Core.Path.{◌≡◌, refl, ap, ◌∙◌}
use mathlib.Core.Bool.{Bool, true, false}
use mathlib.Core.List.{List, [], ◌∷◌, ◌++◌, append_assoc}
use Prim.Native.Nat.{ℕ, zero, suc, ◌≤◌, ◌<◌}
use native.Mathlib.Omega.{arith}
use borrow.Author.Tests.{ltb-false}
use lib.ListN.{length, get_or}
use lib.IntN.{ℤ, nat_abs}
use Rattle.lists.specs.Lists.{list_to, any_of, above}
use Rattle.lists.proofs.Search.{none-bad, any_of_append}
use Rattle.integers.specs.Sums.{max0}
use Rattle.tariff.specs.declared.refusals.Refusal.{Refusal}
use Rattle.tariff.specs.declared.refusals.Refusal.TheVariants.{LoadExceeded}
use Rattle.std.specs.Prelude.{Err}
use Rattle.tariff.specs.Refusals.{passed}
use Rattle.tariff.specs.Refusals.{Check, first}
use Rattle.tariff.specs.Units.{max_entities, max_load}
use Rattle.tariff.proofs.Checks.{first_passes, first-refuses, append_refuses, append_passes, passed_cons, passed_append}
use Rattle.layouts.specs.BookFile.{book_form_in, contract_count_in}
use Rattle.book_rules.specs.BookChecks.{own_checks}
use Rattle.book_rules.proofs.Accepted.{Accepted, own_accepted}
use Rattle.book_growth.specs.Inner.{growth_checks}
use Rattle.book_growth.proofs.Keeping.{accepted-whole}
use Rattle.migration_rules.specs.Transfers.{MigrationRow, loss, losses_to, load, exceeded, migration_row_checks, range_checks, load_exceeded, loads_exceeded_of}
use Rattle.migration_rules.proofs.Nets.{losses-cong}
use Rattle.tariff.specs.declared.units.Transfer.{Transfer}
use Rattle.migration_transfers.specs.Squares.{lost_in, Nets}
use Rattle.migration_transfers.specs.Inner.{RowsIn}
use Rattle.migration_transfers.proofs.Squares.{lost_at_lem}
use Rattle.migration_transfers.proofs.Rows.{rowed}
use Rattle.migration_book.specs.MigrateLoad.{MigrateLoadCall, rows_given, contracts_grown, migrate_load_checks, migrate_load_checked}
use Rattle.migration_book.specs.Inner.{input_checks, Readable}

-- ---- the checks' parts

module _ (q : MigrateLoadCall) where
  abbrev pub input_of : List Check
  input_of = input_checks q.nodes q.period q.book q.lists q.loads

  abbrev pub room_for : List Check
  room_for = growth_checks (book_form_in q.book) (length (contracts_grown q)) (length q.place)

  pub split : migrate_load_checks q ≡ input_of ++ load_exceeded (loss (rows_given q)) q.loads ∷ room_for
  unfolding migrate_load_checks input_checks
  split = rw append_assoc

  pub input_refuses : (r : Refusal) → first input_of ≡ Err r → migrate_load_checked q ≡ Err r
  input_refuses r e = ap first split ∙ append_refuses input_of _ r e

  module _ (pass : first input_of ≡ passed) where
    pub load-refuses : loads_exceeded_of (loss (rows_given q)) q.loads ≡ true → migrate_load_checked q ≡ Err LoadExceeded
    load-refuses e = ap first split ∙ append_passes input_of _ pass ∙ first-refuses _ _ e

    pub room_next : loads_exceeded_of (loss (rows_given q)) q.loads ≡ false → migrate_load_checked q ≡ first room_for
    room_next e = ap first split ∙ append_passes input_of _ pass ∙ first_passes _ _ e

-- ---- what holds where 22 passes

pub record Figures (q : MigrateLoadCall) : Type 0 where
  pub few : length q.loads ≤ max_entities
  pub most : (i : ℕ) → i < length q.loads → get_or q.loads i 0 ≤ max_load
  pub rows : RowsIn q.lists.customers q.lists.rates q.lists.olds q.lists.news

module _ (q : MigrateLoadCall) where
  figures : first (range_checks q.lists q.loads) ≡ passed → Figures q
  unfolding range_checks
  figures e =
      let p = passed_append (migration_row_checks (length q.loads) q.lists) _ e in
      let r = rowed (length q.loads) q.lists p.0 in
      record {
        few = r.few;
        most = λ i h. ltb-false max_load (get_or q.loads i 0) (none-bad (above max_load) q.loads 0 (passed_cons _ _ p.1).0 i h);
        rows = r.rows;
      }

  pub input_figures : first (input_of q) ≡ passed → Figures q
  unfolding input_checks
  input_figures e = figures (passed_append (own_checks q.nodes q.book) _ (passed_cons _ _ e).1).1

  pub input_own : first (input_of q) ≡ passed → first (own_checks q.nodes q.book) ≡ passed
  unfolding input_checks
  input_own e = (passed_append (own_checks q.nodes q.book) _ (passed_cons _ _ e).1).0

  pub input_accepted : first (input_of q) ≡ passed → Accepted q.nodes q.book
  input_accepted e = own_accepted q.nodes q.book (input_own e)

-- a book that is accepted can be read
pub accepted-readable : (n : ℕ) (book : List ℕ) → Accepted n book → Readable (book_form_in book) (contract_count_in book) book
accepted-readable n book a = record { few = a.few; whole = accepted-whole n book a; count-is = refl; there = omega (arith, a.size); quantities = λ i h. (a.each i h).quantity-sized }

-- ---- the losses that the square says

pub square_losses : (rows : List MigrationRow) (square : List (List Transfer)) → Nets rows square → (i j : ℕ) → 0 < i → i ≤ max_entities → 0 < j → j ≤ max_entities → lost_in square i j ≡ loss rows i j
unfolding loss
square_losses rows square nets zero j a b c d = absurd (omega arith)
square_losses rows square nets (suc i) zero a b c d = absurd (omega arith)
square_losses rows square nets (suc i) (suc j) a b c d = lost_at_lem square i j ∙ ap (λ (z : ℤ). nat_abs (max0 z)) (nets.cells i j (omega arith) (omega arith))

module _ (lost other : ℕ → ℕ → ℕ) (loads : List ℕ) (same : (i j : ℕ) → 0 < i → i ≤ length loads → 0 < j → j ≤ length loads → lost i j ≡ other i j) where
  abbrev bad : (ℕ → ℕ → ℕ) → ℕ → Bool
  bad by i = exceeded (losses_to by i (length loads)) (load loads i)

  to_alike : (m : ℕ) → m ≤ length loads → any_of (bad lost) (list_to m suc) ≡ any_of (bad other) (list_to m suc)
  unfolding list_to any_of
  to_alike zero h = refl
  to_alike (suc m) h =
      rw (
        any_of_append (bad lost) (list_to m suc) (suc m ∷ []),
        any_of_append (bad other) (list_to m suc) (suc m ∷ []),
        to_alike m (omega arith),
        losses-cong lost other (suc m) (length loads) (λ j any_of most. same (suc m) j (omega arith) h any_of most),
      )

  -- 23 by the one is 23 by the other
  pub exceeded-alike : loads_exceeded_of lost loads ≡ loads_exceeded_of other loads
  exceeded-alike = to_alike (length loads) (omega arith)
