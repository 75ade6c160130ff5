-- THE THEOREM of the square (document 02, paper 5): "each the opposite of its mirror", of the square that `net_square` gives, whose cells are the rows' nets.
use mathlib.Core.Path.{◌≡◌, sym, ap, ◌∙◌}
use mathlib.Core.List.{List}
use Prim.Native.Nat.{ℕ, suc, ◌<◌}
use lib.IntN.{neg_ℤ}
use Rattle.tariff.specs.declared.units.Transfer.{Transfer}
use Rattle.tariff.specs.Units.{max_entities}
use Rattle.migration_rules.specs.Transfers.{MigrationRow}
use Rattle.migration_rules.proofs.Theorems.{net-opposite}
use Rattle.migration_transfers.specs.Squares.{cell_in_of, Nets}

pub square_opposite : (rows : List MigrationRow) (square : List (List Transfer)) → Nets rows square → (i j : ℕ) → i < max_entities → j < max_entities
    → cell_in_of square i j ≡ neg_ℤ (cell_in_of square j i)
square_opposite rows square nets i j hi hj = nets.cells i j hi hj ∙ net-opposite rows (suc i) (suc j) ∙ ap neg_ℤ (sym (nets.cells j i hj hi))
