-- The same of a table of excesses: what a cut is enough for, and a contract's cut.
use Rattle.std.specs.Prelude.{Bool, ℕ}
use Rattle.tariff.specs.declared.contracts.Contract.{Contract}
use Rattle.cut_rules.specs.Inner.{enough}
use Rattle.cut_needs.specs.declared.ExcessTable.{ExcessTable}
use Rattle.cut_needs.specs.Inner.{cell_at, slope_in, cut_in}

abbrev pub enough_by : ExcessTable → Contract → ℕ → Bool
enough_by t c =
    enough t.test.grid.factors.constraints (cell_at t.cells.now) (slope_in t.test.grid.factors.constraints t.test.grid.factors.cells.now c)

abbrev pub cut_by : ExcessTable → Contract → ℕ
cut_by t = cut_in t.test.grid.factors.constraints t.test.grid.factors.cells.now t.cells.now
