-- `row_bytes`.
use mathlib.Core.Path.{refl}
use native.Mathlib.Omega.{arith}
use Rattle.view_holder.proofs.row_bytes.Goals as goal

pub returns-in-Narrow : goal.returns-in-Narrow
returns-in-Narrow c = (rw c.in-Narrow.is refl, omega arith)

pub returns-in-Wide : goal.returns-in-Wide
returns-in-Wide c = (rw c.in-Wide.is refl, omega arith)
