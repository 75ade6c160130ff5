-- The checks of finding the MCC are those of an hour's tables.
use mathlib.Core.Path.{◌≡◌, refl}
use lib.ListN.{length}
use Rattle.tariff.specs.Refusals.{first}
use Rattle.grid_tables.specs.Inner.{hour_table_checks}
use Rattle.hour_mcc.specs.FindMcc.{FindMccCall, find_mcc_checks, find_mcc_checked}

-- period 0 is never refused
pub mcc-checks : (q : FindMccCall) → first (hour_table_checks q.nodes q.constraints 0 q.factors q.prices (length q.place)) ≡ find_mcc_checked q
unfolding first hour_table_checks find_mcc_checks
mcc-checks q = refl
