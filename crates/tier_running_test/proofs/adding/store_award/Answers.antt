-- `store_award`: the row stands behind those held, and one more is held.
use mathlib.Core.Path.{refl}
use Rattle.tier_running_test.proofs.adding.store_award.Goals as goal

pub returns : goal.returns
returns c = (c.store_row.ensures, refl)
