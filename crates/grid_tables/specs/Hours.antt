-- What an hour's tables say: the factors of its nodes, and the price of each constraint.
use Rattle.std.specs.Prelude.{List, ℕ, take}
use Rattle.tariff.specs.Units.{Factors, factors_of}
use Rattle.grid_tables.specs.declared.table.HourTable.{HourTable}

abbrev pub factors_by : HourTable → Factors
factors_by t = factors_of t.factors.nodes t.factors.constraints t.factors.cells.now

abbrev pub prices_by : HourTable → List ℕ
prices_by t = take t.factors.constraints t.prices.now
