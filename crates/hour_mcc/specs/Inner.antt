-- What the inner functions of finding the MCC say: the MCC of a node by an hour's tables, and the MCCs of all nodes in a table.
use Rattle.std.specs.Prelude.{◌≡◌, List, ℕ, ◌<◌, get_or, ℤ, pos}
use Rattle.tariff.specs.declared.units.Mcc.{Mcc}
use Rattle.tariff.specs.Settlement.{mcc}
use Rattle.grid_tables.specs.declared.table.HourTable.{HourTable}
use Rattle.grid_tables.specs.Hours.{factors_by, prices_by}

-- the MCC of a node
abbrev pub mcc_in : HourTable → ℕ → ℤ
mcc_in t = mcc (factors_by t) (prices_by t)

abbrev pub MccAt : HourTable → ℕ → Mcc → Type 0
MccAt t node m = m.0 ≡ mcc_in t node

-- the MCC of each node, in a table
pub record MccTable (t : HourTable) (mccs : List Mcc) : Type 0 where
  pub each : (i : ℕ) → i < t.factors.nodes → MccAt t i (get_or mccs i (record { 0 = pos 0 }))
