-- `read_book`: where no check refuses, the file has its length and the table its cells.
use Rattle.std.proofs.lemmas.Result.{err_from_is_err_and}
use mathlib.Core.Path.{refl, sym, ◌∙◌}
use native.Mathlib.Omega.{arith}
use mathlib.Core.List.{flat_map}
use Rattle.tariff.proofs.Answers.{answer-refused, cells-refused, answer-passed, cells-passed}
use Rattle.layouts.specs.BookFile.{book_in}
use Rattle.layouts.specs.BookTable.{cells_of}
use Rattle.book_rules.specs.ReadBook.{read_book_call}
use Rattle.book_rules.proofs.Passing.{readable}
use Rattle.book_reading.proofs.read_book.Goals as goal

pub of-contracts-requires : goal.of-contracts-requires
of-contracts-requires c =
    let a = c.args in
    let o = readable (read_book_call a.nodes a.file.now a.book.now) (sym (c.check_read.ensures a.book.now refl) ∙ c.in_ok-check_read.was) in
    (omega (arith, o.own.size), omega (arith, o.own.size))

pub read_contracts-requires : goal.read_contracts-requires
read_contracts-requires c =
    let a = c.args in
    let o = readable (read_book_call a.nodes a.file.now a.book.now) (sym (c.check_read.ensures a.book.now refl) ∙ c.in_ok-check_read.was) in
    omega (arith, o.room, c.of-contracts.ensures.2)

pub returns-in_err-check_read : goal.returns-in_err-check_read
returns-in_err-check_read c =
    let a = c.args in
    let found = c.check_read.ensures a.book.now refl in
    let told = c.in_err-check_read.was in
    let p = err_from_is_err_and c.from_residual.result c.from_residual.ensures.1 in
    rw (p.1, p.2) (record { values-given = answer-refused _ _ found _ told _; contracts-read = cells-refused _ _ found _ told (flat_map cells_of (book_in a.file.now)) _ })

pub returns : goal.returns
returns c =
    let a = c.args in
    let found = c.check_read.ensures a.book.now refl in
    let told = c.in_ok-check_read.was in
    let of = c.of-contracts.ensures in
    record {
      values-given = rw (of.2, of.1) (answer-passed _ _ found told _);
      contracts-read = cells-passed _ _ found told (flat_map cells_of (book_in a.file.now)) a.book.now _ (rw (of.0, of.1, of.2) at c.read_contracts.ensures);
    }
