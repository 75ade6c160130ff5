-- `write_canonical_book`: where no check of the book's own refuses, the canonical rows are in the cells.
use Rattle.std.proofs.lemmas.Result.{err_from_is_err_and}
use mathlib.Core.Path.{◌≡◌, refl, sym, ap₂, ◌∙◌}
use mathlib.Core.List.{map}
use Prim.Native.Nat.{◌≤◌}
use native.Mathlib.Omega.{arith}
use lib.ListN.{length, take}
use Rattle.std.proofs.lemmas.List.{length-take-le}
use Rattle.tariff.specs.Refusals.{passed}
use Rattle.tariff.specs.Refusals.{first}
use Rattle.tariff.proofs.Answers.{answer-refused, cells-refused, answer-passed, cells-passed}
use Rattle.layouts.specs.BookFile.{book_bytes_of, book_form_in, book_in}
use Rattle.book_rules.specs.BookChecks.{own_checks}
use Rattle.canonical_rules.specs.Canonical.{canonical, canonical_file}
use Rattle.canonical_rules.specs.Inner.{row_number}
use Rattle.canonical_rules.specs.CanonicalBook.{canonical_book_call}
use Rattle.canonical_book.proofs.Accepted.{rows-count, row_at, rows_are, own_refuses, header-there, countable, rows-fit_form, file-bytes, no_room, room}
use Rattle.canonical_book.proofs.write_canonical_book.Goals as goal

pub returns-in_err-check_own : goal.returns-in_err-check_own
returns-in_err-check_own c =
    let a = c.args in
    let q = canonical_book_call a.nodes a.book.now a.file.now in
    let found = c.check_own.ensures in
    let refused = sym (own_refuses q _ (sym found ∙ c.in_err-check_own.was)) in
    let p = err_from_is_err_and c.from_residual.result c.from_residual.ensures.1 in
    rw (p.1, p.2) (record { length-given = answer-refused _ _ refused _ refl _; bytes-written = cells-refused _ _ refused _ refl (canonical_file q.book) _ })

-- ---- no check of the book's own refuses, and the canonical rows are in the cells

pub of-contracts-requires : goal.of-contracts-requires
of-contracts-requires c =
    let call = let a = c.args in canonical_book_call a.nodes a.book.now a.file.now in
    let ok : first (own_checks call.nodes call.book) ≡ passed = sym c.check_own.ensures ∙ c.in_ok-check_own.was in
    (header-there call ok, (countable call ok _ _ refl refl).room)

pub canonical_rows-rows-requires : goal.canonical_rows-rows-requires
canonical_rows-rows-requires c =
    let call = let a = c.args in canonical_book_call a.nodes a.book.now a.file.now in
    let ok : first (own_checks call.nodes call.book) ≡ passed = sym c.check_own.ensures ∙ c.in_ok-check_own.was in
    let of = c.of-contracts.ensures in
    let able = countable call ok _ _ of.1 of.2 in
    (rw of.0 able, able.few)

pub book_bytes-bytes-requires : goal.book_bytes-bytes-requires
book_bytes-bytes-requires c =
    let call = let a = c.args in canonical_book_call a.nodes a.book.now a.file.now in
    let ok : first (own_checks call.nodes call.book) ≡ passed = sym c.check_own.ensures ∙ c.in_ok-check_own.was in
    let of = c.of-contracts.ensures in
    let few : c.canonical_rows-rows.result ≤ 1000 = omega (arith, c.canonical_rows-rows.ensures.1, of.2, (countable call ok _ _ refl refl).few) in
    few

pub returns-then-file-bytes : goal.returns-then-file-bytes
returns-then-file-bytes c =
    let call = let a = c.args in canonical_book_call a.nodes a.book.now a.file.now in
    let ok : first (own_checks call.nodes call.book) ≡ passed = sym c.check_own.ensures ∙ c.in_ok-check_own.was in
    let of = c.of-contracts.ensures in
    let few : c.canonical_rows-rows.result ≤ 1000 = omega (arith, c.canonical_rows-rows.ensures.1, of.2, (countable call ok _ _ refl refl).few) in
    let cells = take c.canonical_rows-rows.result c.canonical_rows-rows.new.cells in
    let count : length cells ≡ c.canonical_rows-rows.result = length-take-le _ _ (omega (arith, few, c.canonical_rows-rows.auto.cells)) in
    let rows : cells ≡ map row_number (canonical (book_in call.book)) = rw (of.0, of.1, of.2) at c.canonical_rows-rows.ensures.0 in
    let many : c.book_bytes-bytes.result ≡ length (canonical_file call.book) = c.book_bytes-bytes.ensures
    ∙ ap₂ book_bytes_of of.1 (sym count ∙ rows-count (book_form_in call.book) (canonical (book_in call.book)) (rows-fit_form call ok) cells rows)
    ∙ sym (file-bytes call ok) in
    let refused = sym (no_room call ok c.book_bytes-bytes.result many c.if-file-bytes.true) in
    record { length-given = answer-refused _ _ refused _ refl _; bytes-written = cells-refused _ _ refused _ refl (canonical_file call.book) _ }

pub slice_bounds-cells-end : goal.slice_bounds-cells-end
slice_bounds-cells-end c =
    let call = let a = c.args in canonical_book_call a.nodes a.book.now a.file.now in
    let ok : first (own_checks call.nodes call.book) ≡ passed = sym c.check_own.ensures ∙ c.in_ok-check_own.was in
    let few : c.canonical_rows-rows.result ≤ 1000 = omega (arith, c.canonical_rows-rows.ensures.1, c.of-contracts.ensures.2, (countable call ok _ _ refl refl).few) in
    omega (arith, few, c.canonical_rows-rows.auto.cells)

pub slice_bounds-write_rows-end : goal.slice_bounds-write_rows-end
slice_bounds-write_rows-end c =
    let call = let a = c.args in canonical_book_call a.nodes a.book.now a.file.now in
    let ok : first (own_checks call.nodes call.book) ≡ passed = sym c.check_own.ensures ∙ c.in_ok-check_own.was in
    let few : c.canonical_rows-rows.result ≤ 1000 = omega (arith, c.canonical_rows-rows.ensures.1, c.of-contracts.ensures.2, (countable call ok _ _ refl refl).few) in
    sym (length-take-le _ _ (omega (arith, few, c.canonical_rows-rows.auto.cells)))

pub write_rows-requires : goal.write_rows-requires
write_rows-requires c =
    let call = let a = c.args in canonical_book_call a.nodes a.book.now a.file.now in
    let ok : first (own_checks call.nodes call.book) ≡ passed = sym c.check_own.ensures ∙ c.in_ok-check_own.was in
    let of = c.of-contracts.ensures in
    let few : c.canonical_rows-rows.result ≤ 1000 = omega (arith, c.canonical_rows-rows.ensures.1, of.2, (countable call ok _ _ refl refl).few) in
    let cells = take c.canonical_rows-rows.result c.canonical_rows-rows.new.cells in
    let count : length cells ≡ c.canonical_rows-rows.result = length-take-le _ _ (omega (arith, few, c.canonical_rows-rows.auto.cells)) in
    let rows : cells ≡ map row_number (canonical (book_in call.book)) = rw (of.0, of.1, of.2) at c.canonical_rows-rows.ensures.0 in
    record {
      rows_le_max_contracts = (omega (arith, count, few), rw count (omega (arith, c.book_bytes-bytes.ensures)));
      by_index = rw of.1 (row_at (book_form_in call.book) (canonical (book_in call.book)) (rows-fit_form call ok) cells rows);
    }

pub returns : goal.returns
unfolding canonical_file
returns c =
    let call = let a = c.args in canonical_book_call a.nodes a.book.now a.file.now in
    let ok : first (own_checks call.nodes call.book) ≡ passed = sym c.check_own.ensures ∙ c.in_ok-check_own.was in
    let of = c.of-contracts.ensures in
    let few : c.canonical_rows-rows.result ≤ 1000 = omega (arith, c.canonical_rows-rows.ensures.1, of.2, (countable call ok _ _ refl refl).few) in
    let cells = take c.canonical_rows-rows.result c.canonical_rows-rows.new.cells in
    let count : length cells ≡ c.canonical_rows-rows.result = length-take-le _ _ (omega (arith, few, c.canonical_rows-rows.auto.cells)) in
    let rows : cells ≡ map row_number (canonical (book_in call.book)) = rw (of.0, of.1, of.2) at c.canonical_rows-rows.ensures.0 in
    let many : c.book_bytes-bytes.result ≡ length (canonical_file call.book) = c.book_bytes-bytes.ensures
    ∙ ap₂ book_bytes_of of.1 (sym count ∙ rows-count (book_form_in call.book) (canonical (book_in call.book)) (rows-fit_form call ok) cells rows)
    ∙ sym (file-bytes call ok) in
    let told = sym (room call ok c.book_bytes-bytes.result many (omega arith)) in
    let written = rw (of.1, rows_are (book_form_in call.book) (canonical (book_in call.book)) (rows-fit_form call ok) cells rows) at c.write_rows.ensures in
    record {
      length-given = rw many (answer-passed _ _ told refl _);
      bytes-written = cells-passed _ _ told refl (canonical_file call.book) call.place _ written;
    }
