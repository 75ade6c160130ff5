-- `cell`.
use Rattle.date_table.proofs.cell.Goals as goal

pub returns : goal.returns
returns c = c.from.ensures
