-- `holder_of`.
use Rattle.view_holder.proofs.holder_of.Goals as goal

pub returns-in-Narrow : goal.returns-in-Narrow
returns-in-Narrow c = rw c.in-Narrow.is c.holder_in.ensures

pub returns-in-Wide : goal.returns-in-Wide
returns-in-Wide c = rw c.in-Wide.is c.holder_in-in-Wide.ensures
