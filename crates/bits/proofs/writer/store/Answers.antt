-- `bits::writer::store`.
use Rattle.bits.proofs.Library.{stored}
use Rattle.bits.proofs.writer.store.Goals as goal

pub returns : goal.returns
returns c =
    let a = c.args in
    stored a.count a.v a.at a.buf.now c.to_be_bytes.result c.copy_from_slice.new.self c.requires.1 c.to_be_bytes.ensures c.copy_from_slice.ensures.after
