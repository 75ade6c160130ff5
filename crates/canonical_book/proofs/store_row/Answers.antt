-- `store_row`: the bits are the row's bytes.
use Rattle.canonical_book.proofs.store_row.Goals as goal

pub returns : goal.returns
returns c = rw c.bits_of.ensures c.store_bits.ensures
