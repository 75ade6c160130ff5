-- Rows of a square, laid one after the other: a row stored from a place on, so many rows, and the rows' nets.
use mathlib.Core.Path.{◌≡◌, refl, sym, ap, ap₂, ◌∙◌}
use mathlib.Core.List.{List, [], ◌++◌, map, flat_map, append_assoc}
use Prim.Native.Nat.{ℕ, zero, suc, ◌+◌, ◌*◌, ◌^◌, ◌≤◌, ◌<◌}
use native.Mathlib.Nat.{zero-mul, suc-mul}
use native.Mathlib.Omega.{arith}
use lib.ListN.{length, get_or, take, drop, length-append}
use lib.Seq.{length-take-le, get_or-append-add, drop-drop, take_at, drop_at}
use lib.IntN.{ℤ, pos, negsuc, nat_abs}
use mir.Syntax.{w64}
use mir.Val.{SFits}
use Rattle.lists.specs.Lent.{overwrite}
use Rattle.lists.specs.Lists.{list_to}
use Rattle.lists.proofs.Lists.{length-list_to, get_d_list_to, list_to-cong, map-list_to, flat_map_last, flat_map_more}
use Rattle.tariff.specs.declared.units.Transfer.{Transfer}
use Rattle.tariff.specs.Units.{max_entities}
use Rattle.migration_rules.specs.Transfers.{MigrationRow, net}
use Rattle.migration_transfers.specs.Squares.{no_transfer, cell_in_of, Nets}
use Rattle.migration_square.specs.NetTransfers.{square_cells}
use Rattle.migration_square.specs.Inner.{row_cells, rows_cells, overwrite_at}

-- a net of this size fits a cell
pub fits_cell : (x : ℤ) → nat_abs x < 2 ^ 63 → SFits w64 x
fits_cell (pos a) h = record { sfits = omega (arith, h) }
fits_cell (negsuc a) h = record { sfits = omega (arith, h) }

-- ---- one row, from place at on

module _ (n at : ℕ) (nets : List ℤ) (row : List Transfer) (room : at + n ≤ length nets) where
  -- what stands there up to the row's end
  abbrev pub target : List ℤ
  target = take at nets ++ row_cells n row

  head_long : length (take at nets) ≡ at
  head_long = length-take-le at nets (omega (arith, room))

  cells-long : length (row_cells n row) ≡ n
  cells-long = length-list_to n (λ j. (get_or row j no_transfer).0)

  pub target_long : length target ≡ at + n
  target_long = length-append (take at nets) (row_cells n row) ∙ ap₂ (λ (a b : ℕ). a + b) head_long cells-long

  pub target_at : (j : ℕ) → j < n → get_or target (at + j) (pos 0) ≡ (get_or row j no_transfer).0
  target_at j h =
      ap (λ (a : ℕ). get_or target (a + j) (pos 0)) (sym head_long) ∙ get_or-append-add (take at nets) (row_cells n row) j (pos 0)
      ∙ get_d_list_to n (λ j. (get_or row j no_transfer).0) j (pos 0) h

  pub target_starts : take at nets ≡ take at target
  target_starts = sym (take_at (take at nets) (row_cells n row) at head_long)

  pub target_ends : (out : List ℤ) → out ≡ target ++ drop (length target) nets → out ≡ overwrite_at at (row_cells n row) nets
  target_ends out e =
      e ∙ append_assoc (take at nets) (row_cells n row) (drop (length target) nets)
      ∙ ap (λ (rest : List ℤ). take at nets ++ (row_cells n row ++ rest))
      (ap (λ (m : ℕ). drop m nets) (target_long ∙ ap (λ (m : ℕ). at + m) (sym cells-long)) ∙ sym (drop-drop (length (row_cells n row)) at nets))

-- ---- the first m rows

rows_long : (n : ℕ) (square : List (List Transfer)) (m : ℕ) → length (rows_cells n square m) ≡ m * n
unfolding list_to flat_map
rows_long n square zero = sym (zero-mul n)
rows_long n square (suc m) =
    let F : ℕ → List ℤ = λ i. list_to n (cell_in_of square i) in
    ap length (flat_map_last F (list_to m (λ i. i)) m) ∙ length-append (flat_map F (list_to m (λ i. i))) (F m)
    ∙ ap₂ (λ (a b : ℕ). a + b) (rows_long n square m) (length-list_to n (cell_in_of square m)) ∙ sym (suc-mul m n)

pub rows_none : (n : ℕ) (square : List (List Transfer)) (nets : List ℤ) → nets ≡ overwrite (rows_cells n square 0) nets
unfolding list_to flat_map
rows_none n square nets = refl

-- a row more
pub rows_more : (n : ℕ) (square : List (List Transfer)) (m : ℕ) (nets₀ nets out : List ℤ) → nets ≡ overwrite (rows_cells n square m) nets₀
    → out ≡ overwrite_at (m * n) (row_cells n (get_or square m [])) nets → out ≡ overwrite (rows_cells n square (m + 1)) nets₀
rows_more n square m nets₀ nets out e stored =
    let F : ℕ → List ℤ = λ i. list_to n (cell_in_of square i) in
    let old = rows_cells n square m in
    let row = row_cells n (get_or square m []) in
    let head : take (m * n) nets ≡ old = ap (take (m * n)) e ∙ take_at old (drop (length old) nets₀) (m * n) (rows_long n square m) in
    let rest : drop (m * n) nets ≡ drop (length old) nets₀ = ap (drop (m * n)) e ∙ drop_at old (drop (length old) nets₀) (m * n) (rows_long n square m) in
    let both : rows_cells n square (m + 1) ≡ old ++ row = flat_map_more F m (λ i. i) in
    stored
    ∙ ap₂ (λ (a b : List ℤ). a ++ (row ++ drop (length row) b)) head rest
    ∙ sym (append_assoc old row (drop (length row) (drop (length old) nets₀)))
    ∙ ap (λ (b : List ℤ). (old ++ row) ++ b) (drop-drop (length row) (length old) nets₀ ∙ ap (λ (k : ℕ). drop k nets₀) (sym (length-append old row)))
    ∙ ap (λ (a : List ℤ). overwrite a nets₀) (sym both)

-- ---- the square of the rows' nets

laid : {A : Type 0} (F G : ℕ → List A) (m : ℕ) → ((i : ℕ) → i < m → F i ≡ G (suc i)) → flat_map F (list_to m (λ i. i)) ≡ flat_map G (list_to m suc)
unfolding list_to flat_map
laid F G zero h = refl
laid F G (suc m) h = flat_map_last F (list_to m (λ i. i)) m ∙ ap₂ ◌++◌ (laid F G m (λ i b. h i (omega arith))) (h m (omega arith)) ∙ sym (flat_map_last G (list_to m suc) (suc m))

pub square_laid : (n : ℕ) → n ≤ max_entities → (rows : List MigrationRow) (square : List (List Transfer)) → Nets rows square → rows_cells n square n ≡ square_cells n rows
square_laid n few rows square nets =
    laid (λ i. list_to n (cell_in_of square i)) (λ i. map (net rows i) (list_to n suc)) n
    (λ i h. list_to-cong n (cell_in_of square i) (λ j. net rows (suc i) (suc j)) (λ j b. nets.cells i j (omega arith) (omega arith)) ∙ sym (map-list_to n suc (net rows (suc i))))
