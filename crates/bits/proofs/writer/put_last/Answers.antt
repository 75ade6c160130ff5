-- `bits::writer::put_last`.
use Rattle.bits.proofs.Writing.{goes_on}
use Rattle.bits.proofs.writer.put_last.Goals as goal

pub returns-clause-writes_on : goal.returns-clause-writes_on
returns-clause-writes_on c = goes_on c.put-last.ensures.writes_on c.flush.ensures.writes_on
