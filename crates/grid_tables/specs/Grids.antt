-- The grid that lent tables hold.
use Rattle.tariff.specs.Units.{Grid, grid_of}
use Rattle.grid_tables.specs.declared.table.GridTable.{GridTable}

abbrev pub grid_by : GridTable → Grid
grid_by t = grid_of t.factors.nodes t.factors.constraints t.limits.now t.factors.cells.now
