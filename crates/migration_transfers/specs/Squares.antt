-- A square of net transfers, cell by cell: a row for each loser, and in it a cell for each gainer.
use Rattle.std.specs.Prelude.{◌≡◌, List, [], ℕ, suc, ◌-◌, ◌<◌, get_or, ℤ, pos, nat_abs}
use Rattle.integers.specs.Sums.{max0}
use Rattle.tariff.specs.declared.units.Transfer.{Transfer}
use Rattle.tariff.specs.Units.{max_entities}
use Rattle.migration_rules.specs.Transfers.{MigrationRow, net}

-- of a cell that is not there
abbrev pub no_transfer : Transfer
no_transfer = record { 0 = pos 0 }

abbrev pub cell_in_of : List (List Transfer) → ℕ → ℕ → ℤ
cell_in_of square i j = (get_or (get_or square i []) j no_transfer).0

-- what is lost by a net, whoever the two are
abbrev pub of_net : ℤ → ℕ → ℕ → ℕ
of_net z i j = nat_abs (max0 z)

-- what is lost to LSE j, by the loser's row
abbrev pub lost_from : List Transfer → ℕ → ℕ
lost_from row j = nat_abs (max0 (get_or row (j - 1) no_transfer).0)

-- the same of any loser, whose row it is
abbrev pub row_losses : List Transfer → ℕ → ℕ → ℕ
row_losses row i = lost_from row

-- what LSE i loses to LSE j, by the square
abbrev pub lost_in : List (List Transfer) → ℕ → ℕ → ℕ
lost_in square i = lost_from (get_or square (i - 1) [])

-- the square of rows: the cell of LSEs i + 1 and j + 1 is their net
pub record Nets (rows : List MigrationRow) (square : List (List Transfer)) : Type 0 where
  pub cells : (i j : ℕ) → i < max_entities → j < max_entities → cell_in_of square i j ≡ net rows (suc i) (suc j)
