-- `contract_from`: each field is its cell.
use Rattle.layouts.specs.BookTable.{row_from}
use Rattle.book_rows.proofs.contract_from.Goals as goal

pub returns : goal.returns
unfolding row_from
returns c = rw (c.from.ensures, c.from-2.ensures)
