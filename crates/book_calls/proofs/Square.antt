-- What `migrate_load` writes follows the cells that `net_transfers` gives; the statements are in specs/Square.antt.
use mathlib.Core.Path.{◌≡◌, refl, sym, ap, ap₂, ◌∙◌}
use mathlib.Core.List.{List, []}
use Prim.Native.Nat.{ℕ, zero, suc, ◌-◌, ◌*◌, ◌≤◌, ◌<◌}
use native.Mathlib.Omega.{arith}
use borrow.Author.Tests.{le-ltb}
use lib.ListN.{length, take}
use lib.IntN.{ℤ, nat_abs}
use Rattle.lists.specs.Lent.{Lent, before, after, overwrite}
use Rattle.integers.specs.Sums.{max0}
use Rattle.std.specs.Prelude.{Ok, Err}
use Rattle.tariff.specs.Refusals.{passed}
use Rattle.tariff.specs.ContractRules.{period_of}
use Rattle.tariff.specs.Refusals.{first, passed}
use Rattle.tariff.proofs.Answers.{given-told, some_refuses, none-refused, number-told}
use Rattle.tariff.proofs.Checks.{append_passes, last-passes, passed_append, passed_cons}
use Rattle.layouts.specs.BookFile.{book_file, book_form_in, book_in}
use Rattle.book_rules.specs.BookChecks.{own_checks}
use Rattle.migration_rules.specs.Transfers.{MigrationRow, RowLists, migration_rows_in, loss, migration_row_checks, range_checks}
use Rattle.migration_rules.proofs.Alike.{book-alike}
use Rattle.migration_square.specs.NetTransfers.{NetsAnswer}
use Rattle.migration_square.specs.NetTransfers.{NetTransfersCall, net_transfers_checks, net_transfers_checked, nets_given, square_cells, NetsTransfers, NetsTransfersForC}
use Rattle.migration_book.specs.MigrateLoad.{MigrateLoadCall, rows_given, migrate_load_checked, book_migrated, MigratesLoad, MigratesLoadForC}
use Rattle.migration_book.specs.Inner.{input_checks}
use Rattle.migration_book.proofs.Passing.{input_of, split}
use Rattle.layouts.proofs.Writing.{writes_told, written-by}
use Rattle.book_calls.specs.Square.{SameRows, lost_by, book_by, SquareCalls}
use Rattle.book_calls.proofs.SquareCells.{square_at}

-- ---- what migrating takes is netted

rows_pass : (q : MigrateLoadCall) → migrate_load_checked q ≡ passed → first (migration_row_checks (length q.loads) q.lists) ≡ passed
unfolding input_checks range_checks
rows_pass q pass =
    let input = (passed_append (input_of q) _ (sym (ap first (split q)) ∙ pass)).0 in
    let range = (passed_append (own_checks q.nodes q.book) _ (passed_cons _ _ input).1).1 in
    (passed_append (migration_row_checks (length q.loads) q.lists) _ range).0

nets-pass : (s : NetTransfersCall) → first (migration_row_checks s.entities s.lists) ≡ passed → s.entities * s.entities ≤ length s.place → net_transfers_checked s ≡ passed
unfolding net_transfers_checks
nets-pass s rows room = append_passes (migration_row_checks s.entities s.lists) _ rows ∙ last-passes _ (le-ltb (length s.place) (s.entities * s.entities) room)

netted : (s : NetTransfersCall) (a : NetsAnswer) (y : List ℤ) → net_transfers_checked s ≡ passed → NetsTransfers s a y → a ≡ passed
netted s (Ok _) y pass w = refl
netted s (Err r) y pass w = absurd (some_refuses (net_transfers_checked s) [] r w.nothing_else pass)

taken : (q : MigrateLoadCall) (s : NetTransfersCall) (m : ℕ) (x : List ℕ) (a : NetsAnswer) (y : List ℤ) → SameRows q s
    → s.entities * s.entities ≤ length s.place → MigratesLoad q (Ok m) x → NetsTransfers s a y → a ≡ passed
taken q s m x a y same room w t =
    let pass = (writes_told (migrate_load_checked q) (book_migrated q) q.place m x w).0 in
    netted s a y (nets-pass s (rw (same.entities-same, same.lists-same) (rows_pass q pass)) room) t

-- ---- the cells say the rows' losses

cells_say : (n : ℕ) (rows : List MigrationRow) (place : List ℤ) (i j : ℕ) → 0 < i → i ≤ n → 0 < j → j ≤ n → loss rows i j ≡ lost_by n (overwrite (square_cells n rows) place) i j
unfolding loss lost_by
cells_say n rows place zero j a b c d = absurd (omega arith)
cells_say n rows place (suc i) zero a b c d = absurd (omega arith)
cells_say n rows place (suc i) (suc j) a b c d =
    let p : suc i - 1 ≡ i = omega arith in
    let r : suc j - 1 ≡ j = omega arith in
    rw (p, r) (ap (λ (z : ℤ). nat_abs (max0 z)) (sym (square_at n rows i j (omega arith) (omega arith) place)))

-- the book by the cells is the book by the rows
by_cells : (q : MigrateLoadCall) (place : List ℤ) → book_migrated q ≡ book_by q (overwrite (square_cells (length q.loads) (rows_given q)) place)
by_cells q place =
    let n = length q.loads in
    ap (book_file (book_form_in q.book))
    (book-alike (period_of q.period) (loss (rows_given q)) (lost_by n (overwrite (square_cells n (rows_given q)) place)) q.loads (cells_say n (rows_given q) place) (book_in q.book))

-- the place where none of netting's checks refuses
left : (q : MigrateLoadCall) (s : NetTransfersCall) → SameRows q s → overwrite (nets_given s) s.place ≡ overwrite (square_cells (length q.loads) (rows_given q)) s.place
left q s same = ap₂ (λ (n : ℕ) (lists : RowLists). overwrite (square_cells n (migration_rows_in lists)) s.place) same.entities-same same.lists-same

followed : (q : MigrateLoadCall) (s : NetTransfersCall) (m : ℕ) (x : List ℕ) (y : List ℤ) → SameRows q s → MigratesLoad q (Ok m) x → y ≡ overwrite (nets_given s) s.place
    → take m x ≡ book_by q y
followed q s m x y same w e =
    (writes_told (migrate_load_checked q) (book_migrated q) q.place m x w).1 ∙ by_cells q s.place ∙ ap (book_by q) (sym (e ∙ left q s same))

by_square : (q : MigrateLoadCall) (s : NetTransfersCall) (m : ℕ) (x : List ℕ) (y : List ℤ) → SameRows q s → MigratesLoad q (Ok m) x → NetsTransfers s passed y → take m x ≡ book_by q y
by_square q s m x y same w t =
    let pass = (given-told (net_transfers_checked s) [] [] t.nothing_else).0 in
    followed q s m x y same w (rw pass at t.nets-given)

by_square_for_c : (q : MigrateLoadCall) (s : NetTransfersCall) (x : List ℕ) (u : Lent ℕ) (y : List ℤ) → SameRows q s → MigratesLoadForC q 0 x u → NetsTransfersForC s 0 y
    → take (after u) x ≡ book_by q y
by_square_for_c q s x u y same w t =
    let pass = none-refused (net_transfers_checked s) (number-told (net_transfers_checked s) [] _ t.promised.nothing_else 0 t.refusal-number) in
    followed q s (after u) x y same (written-by (migrate_load_checked q) (book_migrated q) q.place (before u) x (after u) w) (rw pass at t.promised.nets-given)

pub square_calls : SquareCalls
square_calls = record { migrated_netted = taken; migrated_by_square = by_square; crr_migrated_by_square = by_square_for_c }
