-- `write_book`: where no check refuses, the rows fit their fields and the bytes the file.
use Rattle.std.proofs.lemmas.Result.{err_from_is_err_and}
use mathlib.Core.Path.{refl, sym, ◌∙◌}
use Rattle.tariff.proofs.Answers.{answer-refused, cells-refused, answer-passed, cells-passed}
use Rattle.book_rules.specs.WriteBook.{write_book_call, book_written}
use Rattle.book_rules.proofs.Passing.{writable, length-written}
use Rattle.book_writing.proofs.write_book.Goals as goal

pub write_contracts-requires : goal.write_contracts-requires
write_contracts-requires c =
    let a = c.args in
    let o = writable (write_book_call a.form a.nodes a.contracts a.book.now a.file.now) (sym (c.check_write.ensures a.file.now refl) ∙ c.in_ok-check_write.was) in
    record { contracts_le_max_contracts = (o.few, o.long, o.room); by_index = λ i h. (o.rows i h).row }

pub book_bytes-requires : goal.book_bytes-requires
book_bytes-requires c =
    let a = c.args in
    let o = writable (write_book_call a.form a.nodes a.contracts a.book.now a.file.now) (sym (c.check_write.ensures a.file.now refl) ∙ c.in_ok-check_write.was) in
    o.few

pub returns-in_err-check_write : goal.returns-in_err-check_write
returns-in_err-check_write c =
    let a = c.args in
    let found = c.check_write.ensures a.file.now refl in
    let told = c.in_err-check_write.was in
    let q = write_book_call a.form a.nodes a.contracts a.book.now a.file.now in
    let p = err_from_is_err_and c.from_residual.result c.from_residual.ensures.1 in
    rw (p.1, p.2) (record { length-given = answer-refused _ _ found _ told _; bytes-written = cells-refused _ _ found _ told (book_written q) _ })

pub returns : goal.returns
returns c =
    let a = c.args in
    let o = writable (write_book_call a.form a.nodes a.contracts a.book.now a.file.now) (sym (c.check_write.ensures a.file.now refl) ∙ c.in_ok-check_write.was) in
    let q = write_book_call a.form a.nodes a.contracts a.book.now a.file.now in
    let found = c.check_write.ensures a.file.now refl in
    let told = c.in_ok-check_write.was in
    record {
      length-given = rw (c.book_bytes.ensures, sym (length-written q o)) (answer-passed _ _ found told _);
      bytes-written = cells-passed _ _ found told (book_written q) a.file.now _ c.write_contracts.ensures;
    }
