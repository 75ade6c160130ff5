-- A cell of a square laid row by row, by its row and its place in it.
use mathlib.Core.Path.{◌≡◌, refl, sym, ap, ap₂, ◌∙◌}
use mathlib.Core.Bool.{Bool, true, false}
use mathlib.Core.List.{List, ◌++◌, map, flat_map}
use Prim.Native.Nat.{ℕ, zero, suc, ◌+◌, ◌*◌, ◌≤◌, ◌<◌}
use native.Mathlib.Nat.{zero-mul, suc-mul, mul-le-mul}
use native.Mathlib.Omega.{arith}
use borrow.Author.Tests.{ltb-true, ltb-false}
use lib.Dec.{ltb}
use lib.ListN.{length, get_or, length-append, get_or-append}
use lib.Seq.{get_or-append-add}
use lib.IntN.{ℤ, pos}
use Rattle.lists.specs.Lists.{list_to}
use Rattle.lists.specs.Lent.{overwrite}
use Rattle.lists.proofs.Lists.{length-list_to, get_d_list_to, map-list_to, flat_map_last}
use Rattle.lists.proofs.Fronts.{front_at}
use Rattle.migration_rules.specs.Transfers.{MigrationRow, net}
use Rattle.migration_square.specs.NetTransfers.{square_cells}

module _ (n : ℕ) (F : ℕ → List ℤ) (wide : (i : ℕ) → length (F i) ≡ n) where
  rows_long : (m : ℕ) → length (flat_map F (list_to m suc)) ≡ m * n
  unfolding list_to flat_map
  rows_long zero = sym (zero-mul n)
  rows_long (suc m) =
      ap length (flat_map_last F (list_to m suc) (suc m)) ∙ length-append (flat_map F (list_to m suc)) (F (suc m)) ∙ ap₂ (λ (a b : ℕ). a + b) (rows_long m) (wide (suc m))
      ∙ sym (suc-mul m n)

  row_within : (m i j : ℕ) → i < m → j < n → i * n + j < m * n
  row_within m i j h k =
      let most : suc i ≤ m = omega arith in
      let all : n ≤ n = omega arith in
      omega (arith, suc-mul i n, mul-le-mul most all)

  cell_of_row : (m i j : ℕ) → i < m → j < n → (d : ℤ) → get_or (flat_map F (list_to m suc)) (i * n + j) d ≡ get_or (F (suc i)) j d
  unfolding list_to
  cell_of_row zero i j h k d = absurd (omega arith)
  cell_of_row (suc m) i j h k d = ap (λ (xs : List ℤ). get_or xs (i * n + j) d) (flat_map_last F (list_to m suc) (suc m)) ∙ by (ltb i m) refl (λ below. cell_of_row m i j below k d)
    where
      by : (b : Bool) → ltb i m ≡ b → (i < m → get_or (flat_map F (list_to m suc)) (i * n + j) d ≡ get_or (F (suc i)) j d)
          → get_or (flat_map F (list_to m suc) ++ F (suc m)) (i * n + j) d ≡ get_or (F (suc i)) j d
      by true e earlier =
          let below : i < m = ltb-true i m e in
          get_or-append (flat_map F (list_to m suc)) (F (suc m)) d (i * n + j) (rw (rows_long m) (row_within m i j below k)) ∙ earlier below
      by false e earlier =
          let last : i ≡ m = omega (arith, ltb-false i m e) in
          rw last (ap (λ (a : ℕ). get_or (flat_map F (list_to m suc) ++ F (suc m)) (a + j) d) (sym (rows_long m)) ∙ get_or-append-add (flat_map F (list_to m suc)) (F (suc m)) j d)

module _ (n : ℕ) (rows : List MigrationRow) where
  abbrev row_of : ℕ → List ℤ
  row_of i = map (net rows i) (list_to n suc)

  row-wide : (i : ℕ) → length (row_of i) ≡ n
  row-wide i = ap length (map-list_to n suc (net rows i)) ∙ length-list_to n (λ j. net rows i (suc j))

  pub square_long : length (square_cells n rows) ≡ n * n
  square_long = rows_long n row_of row-wide n

  -- the cell of LSEs i + 1 and j + 1, in a place whose front is the square
  pub square_at : (i j : ℕ) → i < n → j < n → (place : List ℤ) → get_or (overwrite (square_cells n rows) place) (i * n + j) (pos 0) ≡ net rows (suc i) (suc j)
  square_at i j h k place =
      front_at (square_cells n rows) place (n * n) square_long (i * n + j) (pos 0) (row_within n row_of row-wide n i j h k)
      ∙ cell_of_row n row_of row-wide n i j h k (pos 0)
      ∙ ap (λ (xs : List ℤ). get_or xs j (pos 0)) (map-list_to n suc (net rows (suc i))) ∙ get_d_list_to n (λ j. net rows (suc i) (suc j)) j (pos 0) k
