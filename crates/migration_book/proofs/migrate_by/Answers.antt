-- `migrate_by`: what is read of the book's header is what it is said to have.
use Rattle.layouts.specs.BookFile.{book_form_in, contract_count_in}
use Rattle.layouts.proofs.BookFile.{book-bytes_least}
use Rattle.migration_book.proofs.migrate_by.Goals as goal

pub of-requires : goal.of-requires
of-requires c =
    let ok = c.requires.0 in
    (book-bytes_least (book_form_in c.args.book.now) (contract_count_in c.args.book.now) _ ok.there, ok.there)

pub returns : goal.returns
returns c =
    let of = c.of.ensures in
    rw (of.0, of.1, of.2) at c.grow.ensures
