-- `migrate_load`: the square says the rows' losses, so that what follows by it follows by the rows.
use mathlib.Core.Path.{◌≡◌, sym, ◌∙◌}
use Rattle.std.proofs.Common.{Bool, List, ℕ, ◌≤◌, ◌<◌}
use Rattle.std.proofs.lemmas.Result.{err_from_is_err_and}
use Rattle.tariff.specs.Units.{max_entities}
use Rattle.tariff.specs.declared.units.Transfer.{Transfer}
use native.Mathlib.Nat.{le_trans}
use lib.ListN.{length}
use Rattle.layouts.specs.BookFile.{book_in}
use Rattle.migration_rules.specs.Transfers.{RowLists, row_lists, loss, loads_exceeded_of}
use Rattle.migration_rules.proofs.Alike.{loads-within, book-alike}
use Rattle.migration_transfers.specs.Squares.{lost_in, Nets}
use Rattle.migration_book.specs.MigrateLoad.{MigrateLoadCall, rows_given}
use Rattle.migration_book.proofs.Passing.{input_refuses, load-refuses, room_next, input_figures, input_accepted, accepted-readable, square_losses, exceeded-alike}
use Rattle.migration_book.proofs.migrate_load.Goals as goal

abbrev call : ℕ → ℕ → List ℕ → RowLists → List ℕ → List ℕ → MigrateLoadCall
call nodes period book lists loads place = record { nodes = nodes; period = period; book = book; lists = lists; loads = loads; place = place }

-- of two of the LSEs the square says what the rows do
same-losses : (q : MigrateLoadCall) (square : List (List Transfer)) → length q.loads ≤ max_entities → Nets (rows_given q) square
    → (i j : ℕ) → 0 < i → i ≤ length q.loads → 0 < j → j ≤ length q.loads → lost_in square i j ≡ loss (rows_given q) i j
same-losses q square few nets i j a b d e = square_losses _ _ nets i j a (le_trans b few) d (le_trans e few)

-- 23, by the rows
load-told : (q : MigrateLoadCall) (square : List (List Transfer)) → length q.loads ≤ max_entities → Nets (rows_given q) square
    → (found : Bool) → found ≡ loads_exceeded_of (lost_in square) q.loads → loads_exceeded_of (loss (rows_given q)) q.loads ≡ found
load-told q square few nets found e = sym (e ∙ exceeded-alike (lost_in square) (loss (rows_given q)) q.loads (same-losses q square few nets))

pub returns-in_err-check_input : goal.returns-in_err-check_input
returns-in_err-check_input c =
    let a = c.args in
    let q = call a.nodes a.period a.book.now (row_lists a.classes.now a.customers.now a.rates.now a.olds.now a.news.now) a.loads.now a.file.now in
    let e = input_refuses q _ (sym c.check_input.ensures ∙ c.in_err-check_input.was) in
    let p = err_from_is_err_and c.from_residual.result c.from_residual.ensures.1 in
    rw (p.1, p.2) (record { length-given = rw e; bytes-written = rw e })

pub net_square-square-requires : goal.net_square-square-requires
net_square-square-requires c =
    let a = c.args in
    let q = call a.nodes a.period a.book.now (row_lists a.classes.now a.customers.now a.rates.now a.olds.now a.news.now) a.loads.now a.file.now in
    let passed = sym c.check_input.ensures ∙ c.in_ok-check_input.was in
    let f = input_figures q passed in
    f.rows

pub loads_exceeded-requires : goal.loads_exceeded-requires
loads_exceeded-requires c =
    let a = c.args in
    let q = call a.nodes a.period a.book.now (row_lists a.classes.now a.customers.now a.rates.now a.olds.now a.news.now) a.loads.now a.file.now in
    let passed = sym c.check_input.ensures ∙ c.in_ok-check_input.was in
    let f = input_figures q passed in
    (f.few, c.net_square-square.ensures.size)

pub returns-then-loads_exceeded : goal.returns-then-loads_exceeded
returns-then-loads_exceeded c =
    let a = c.args in
    let q = call a.nodes a.period a.book.now (row_lists a.classes.now a.customers.now a.rates.now a.olds.now a.news.now) a.loads.now a.file.now in
    let passed = sym c.check_input.ensures ∙ c.in_ok-check_input.was in
    let f = input_figures q passed in
    let n = c.net_square-square in
    let told = load-told q n.result f.few n.ensures.nets c.loads_exceeded.result c.loads_exceeded.ensures in
    let e = load-refuses q passed (told ∙ c.if-loads_exceeded.true) in
    record { length-given = rw e; bytes-written = rw e }

pub migrate_by-requires : goal.migrate_by-requires
migrate_by-requires c =
    let a = c.args in
    let q = call a.nodes a.period a.book.now (row_lists a.classes.now a.customers.now a.rates.now a.olds.now a.news.now) a.loads.now a.file.now in
    let passed = sym c.check_input.ensures ∙ c.in_ok-check_input.was in
    let f = input_figures q passed in
    let n = c.net_square-square in (
      accepted-readable q.nodes q.book (input_accepted q passed),
      record {
        few = f.few;
        most = f.most;
        size = n.ensures.size;
        losses = loads-within (lost_in n.result) q.loads (sym c.loads_exceeded.ensures ∙ c.if-loads_exceeded.false);
      },
    )

pub returns : goal.returns
returns c =
    let a = c.args in
    let q = call a.nodes a.period a.book.now (row_lists a.classes.now a.customers.now a.rates.now a.olds.now a.news.now) a.loads.now a.file.now in
    let passed = sym c.check_input.ensures ∙ c.in_ok-check_input.was in
    let f = input_figures q passed in
    let n = c.net_square-square in
    let told = load-told q n.result f.few n.ensures.nets c.loads_exceeded.result c.loads_exceeded.ensures in
    let p = c.from in
    rw (
      room_next q passed (told ∙ c.if-loads_exceeded.false),
      ← p.ensures,
      ← book-alike p.result (lost_in n.result) (loss (rows_given q)) q.loads (same-losses q n.result f.few n.ensures.nets) (book_in q.book),
    ) c.migrate_by.ensures
