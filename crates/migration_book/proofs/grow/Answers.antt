-- `grow`: the count found is the grown book's, and where 10 and 9 pass there is room for it.
use mathlib.Core.Path.{◌≡◌, sym, ◌∙◌}
use Prim.Native.Nat.{ℕ, ◌+◌, ◌≤◌}
use native.Mathlib.Omega.{arith}
use lib.ListN.{length}
use Rattle.std.proofs.lemmas.Result.{err_from_is_err_and}
use Rattle.lists.proofs.Lists.{length-list_to}
use mathlib.Core.List.{List}
use Rattle.tariff.specs.declared.units.Transfer.{Transfer}
use Rattle.tariff.specs.Refusals.{Checked, first}
use Rattle.tariff.specs.Units.{max_contracts}
use Rattle.tariff.proofs.Answers.{answer-refused, cells-refused, answer-passed, cells-passed}
use Rattle.layouts.specs.BookFile.{book_file, book_form_in, contract_in}
use Rattle.book_growth.specs.Inner.{growth_checks}
use Rattle.book_growth.proofs.Keeping.{room-parts}
use Rattle.migration_book.specs.declared.migration.Migration.{Migration}
use Rattle.migration_book.specs.Growth.{new_of, grown_of}
use Rattle.migration_book.proofs.Accepted.{grown_length, book-fits, file-size}
use Rattle.migration_book.proofs.grow.Goals as goal

-- the count found is that of the grown book
grown-is : (m : Migration) (square : List (List Transfer)) (grown : ℕ) → grown ≡ m.contracts.count + length (new_of m square) → grown ≡ length (grown_of m square)
grown-is m square grown e = e ∙ sym (grown_length m.contracts.form m.contracts.file.now m.period square m.loads.now m.contracts.count)

pub write_grown-requires : goal.write_grown-requires
write_grown-requires c =
    let m = c.args.migration in
    let grown = c.grown_count-grown in
    let parts = room-parts m.contracts.form grown.result (length c.args.file.now) (sym c.check_room.ensures ∙ c.in_ok-check_room.was) in
    let old = length-list_to m.contracts.count (contract_in m.contracts.form m.contracts.file.now) in
    record {
      ready = c.requires;
      grown_value = omega (arith, old, grown.ensures);
      roomy = record { few = rw (old, ← grown.ensures) parts.0; room = rw (old, ← grown.ensures) parts.1 };
    }

pub book_bytes-requires : goal.book_bytes-requires
book_bytes-requires c =
    (room-parts c.args.migration.contracts.form c.grown_count-grown.result (length c.args.file.now) (sym c.check_room.ensures ∙ c.in_ok-check_room.was)).0

-- what 10 and 9 found, by the grown book
told : (m : Migration) (square : List (List Transfer)) (grown bytes : ℕ) (found : Checked) → grown ≡ m.contracts.count + length (new_of m square) → found ≡ first (growth_checks m.contracts.form grown bytes)
    → found ≡ first (growth_checks (book_form_in m.contracts.file.now) (length (grown_of m square)) bytes)
told m square grown bytes found e is = rw (m.readable.whole.form-is, ← grown-is m square grown e) is

pub returns-in_err-check_room : goal.returns-in_err-check_room
returns-in_err-check_room c =
    let m = c.args.migration in
    let found = told m c.args.square c.grown_count-grown.result (length c.args.file.now) c.check_room.result c.grown_count-grown.ensures c.check_room.ensures in
    let was = c.in_err-check_room.was in
    let p = err_from_is_err_and c.from_residual.result c.from_residual.ensures.1 in
    rw (p.1, p.2) (record {
      length-given = answer-refused _ _ found _ was _;
      bytes-written = cells-refused _ _ found _ was (book_file (book_form_in m.contracts.file.now) (grown_of m c.args.square)) _;
    })

pub returns : goal.returns
returns c =
    let m = c.args.migration in
    let grown = c.grown_count-grown in
    let f = m.contracts.form in
    let form = m.readable.whole.form-is in
    let is = grown-is m c.args.square grown.result grown.ensures in
    let found = told m c.args.square grown.result (length c.args.file.now) c.check_room.result grown.ensures c.check_room.ensures in
    let parts = room-parts f grown.result (length c.args.file.now) (sym c.check_room.ensures ∙ c.in_ok-check_room.was) in
    let was = c.in_ok-check_room.was in
    let few : length (grown_of m c.args.square) ≤ max_contracts = rw (← is) parts.0 in
    let long = file-size f (grown_of m c.args.square) few (book-fits f m.contracts.file.now m.period c.args.square m.loads.now m.contracts.count c.requires) in
    let bytes : c.book_bytes.result ≡ length (book_file (book_form_in m.contracts.file.now) (grown_of m c.args.square)) = rw (form, long, ← is) c.book_bytes.ensures in
    record {
      length-given = rw bytes (answer-passed _ _ found was _);
      bytes-written = cells-passed _ _ found was (book_file (book_form_in m.contracts.file.now) (grown_of m c.args.square)) c.args.file.now _ (rw form c.write_grown.ensures);
    }
