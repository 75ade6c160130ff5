-- What the inner functions of netting say: cells of a square and of one of its rows.
use mathlib.Core.List.{List, ◌++◌, flat_map}
use Rattle.std.specs.Prelude.{ℕ, get_or, take, drop, ℤ}
use Rattle.lists.specs.Lists.{list_to}
use Rattle.lists.specs.Lent.{overwrite}
use Rattle.tariff.specs.declared.units.Transfer.{Transfer}
use Rattle.migration_transfers.specs.Squares.{no_transfer, cell_in_of}

-- the first n cells of a row
abbrev pub row_cells : ℕ → List Transfer → List ℤ
row_cells n row = list_to n (λ j. (get_or row j no_transfer).0)

-- those of its first m rows
abbrev pub rows_cells : ℕ → List (List Transfer) → ℕ → List ℤ
rows_cells n square m = flat_map (λ i. list_to n (cell_in_of square i)) (list_to m (λ i. i))

-- values from a place on, the rest as at entry
abbrev pub overwrite_at : ℕ → List ℤ → List ℤ → List ℤ
overwrite_at at values entry = take at entry ++ overwrite values (drop at entry)
