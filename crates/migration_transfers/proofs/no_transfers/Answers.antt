-- `no_transfers`: every cell of a square of zeros is 0, the net of no rows.
use mathlib.Core.Path.{refl}
use Rattle.migration_transfers.proofs.Netting.{blank_square}
use Rattle.migration_transfers.proofs.no_transfers.Goals as goal

pub returns : goal.returns
returns c = blank_square _ refl refl
