-- `bits::writer::store4`.
use Rattle.bits.proofs.Library.{stored_four}
use Rattle.bits.proofs.writer.store4.Goals as goal

pub returns : goal.returns
returns c =
    let a = c.args in
    stored_four a.v a.at a.buf.now c.to_be_bytes.result c.copy_from_slice.new.self c.to_be_bytes.ensures c.copy_from_slice.ensures.after
