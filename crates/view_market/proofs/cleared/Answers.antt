-- `cleared`.
use Rattle.view_market.proofs.cleared.Goals as goal

pub returns-in-Narrow : goal.returns-in-Narrow
returns-in-Narrow c = let b = c in rw (b.in-Narrow.is, b.part.ensures.0, c.part-in-Narrow.ensures.0)

pub returns-in-Wide : goal.returns-in-Wide
returns-in-Wide c = let b = c in rw (b.in-Wide.is, b.part-in-Wide.ensures.0, c.part-in-Wide-2.ensures.0)
