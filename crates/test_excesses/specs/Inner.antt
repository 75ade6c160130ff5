-- What the function says: the excesses as cells.
use Rattle.std.specs.Prelude.{List, ℕ, ◌*◌, get_or, ℤ, pos, ◌-ℤ◌}
use Rattle.tariff.specs.declared.processes.Process.{Process}
use Rattle.tariff.specs.Processes.{percent}

abbrev pub cell_at : List ℤ → ℕ → ℤ
cell_at cells j = get_or cells j (pos 0)

-- the excess at constraint j: its flow less its released limit
abbrev pub excess_in : List ℕ → Process → List ℤ → ℕ → ℤ
excess_in limits process flows j = cell_at flows j -ℤ pos (get_or limits j 0 * percent process * 1000)
