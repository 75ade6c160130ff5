-- A book as a table, there and back.
use mathlib.Core.Path.{◌≡◌, refl, sym, ap, ◌∙◌}
use mathlib.Core.List.{List, [], ◌∷◌, ◌++◌, flat_map}
use Prim.Native.Nat.{ℕ, zero, suc, ◌+◌, ◌*◌, ◌≤◌, ◌<◌}
use native.Mathlib.Omega.{arith}
use lib.ListN.{length, get_or, take, drop, length-append, length-drop}
use lib.Seq.{get_or-append-add, get_or-drop, take-add}
use Rattle.lists.specs.Lists.{list_to}
use Rattle.lists.proofs.Lists.{list_to-is, take-is_list_to, flat_map_last, flat_map_more}
use Rattle.tariff.specs.declared.contracts.Contract.{Contract}
use Rattle.layouts.specs.BookFile.{contract}
use Rattle.layouts.specs.BookTable.{cells_of, row_from, row_at, rows_in}
use Rattle.layouts.proofs.ContractBits.{kind-bit, period-bit, contract-is}

-- past a book's end
abbrev none : Contract
none = contract 0 0 0 0 0 0

pub length-cells : (cs : List Contract) → length (flat_map cells_of cs) ≡ 6 * length cs
unfolding flat_map cells_of
length-cells [] = refl
length-cells (c ∷ cs) = rw length-append (omega (arith, length-cells cs))

-- a row behind another's cells
row-behind : (c : Contract) (cells : List ℕ) (i : ℕ) → row_at (cells_of c ++ cells) (suc i) ≡ row_at cells i
unfolding row_from cells_of
row-behind c cells i =
    λ t. contract (cell (6 * i) (6 * suc i) (omega arith) t) (cell (6 * i + 1) (6 * suc i + 1) (omega arith) t) (cell (6 * i + 2) (6 * suc i + 2) (omega arith) t)
    (cell (6 * i + 3) (6 * suc i + 3) (omega arith) t) (cell (6 * i + 4) (6 * suc i + 4) (omega arith) t) (cell (6 * i + 5) (6 * suc i + 5) (omega arith) t)
  where
    cell : (j k : ℕ) → k ≡ 6 + j → get_or (cells_of c ++ cells) k 0 ≡ get_or cells j 0
    cell j k e = ap (λ (x : ℕ). get_or (cells_of c ++ cells) x 0) e ∙ get_or-append-add (cells_of c) cells j 0

row_first : (c : Contract) (cells : List ℕ) → row_at (cells_of c ++ cells) 0 ≡ c
unfolding row_from cells_of
row_first c cells = contract-is c refl refl refl refl refl refl

pub row-cells : (cs : List Contract) (i : ℕ) (d : Contract) → i < length cs → row_at (flat_map cells_of cs) i ≡ get_or cs i d
unfolding flat_map
row-cells [] i d h = absurd (omega arith)
row-cells (c ∷ cs) zero d h = row_first c (flat_map cells_of cs)
row-cells (c ∷ cs) (suc i) d h = row-behind c (flat_map cells_of cs) i ∙ row-cells cs i d (omega arith)

pub rows-cells : (cs : List Contract) → rows_in (length cs) (flat_map cells_of cs) ≡ cs
rows-cells cs = list_to-is cs (row_at (flat_map cells_of cs)) none (λ i h. row-cells cs i none h)

-- the cells of one contract more
pub cells-more : (i : ℕ) (f : ℕ → Contract) → flat_map cells_of (list_to (i + 1) f) ≡ flat_map cells_of (list_to i f) ++ cells_of (f i)
cells-more i f = flat_map_more cells_of i f

-- a row's cells, where those of the kind and the period are bits
pub cells-row : (cells : List ℕ) (i : ℕ) → 6 * i + 6 ≤ length cells → get_or cells (6 * i) 0 ≤ 1 → get_or cells (6 * i + 1) 0 ≤ 1 → cells_of (row_at cells i) ≡ take 6 (drop (6 * i) cells)
unfolding row_from cells_of list_to
cells-row cells i le hk hp =
    (λ t. (kind-bit (get_or cells (6 * i) 0) (omega arith) ∙ cell 0 (6 * i) (omega arith)) t
    ∷ (period-bit (get_or cells (6 * i + 1) 0) (omega arith) ∙ cell 1 (6 * i + 1) refl) t
    ∷ cell 2 (6 * i + 2) refl t ∷ cell 3 (6 * i + 3) refl t ∷ cell 4 (6 * i + 4) refl t ∷ cell 5 (6 * i + 5) refl t ∷ [])
    ∙ sym (take-is_list_to 6 (drop (6 * i) cells) 0 (rw length-drop (omega arith)))
  where
    cell : (j k : ℕ) → k ≡ 6 * i + j → get_or cells k 0 ≡ get_or (drop (6 * i) cells) j 0
    cell j k e = rw e (sym (get_or-drop (6 * i) cells j 0))

pub cells-rows : (m : ℕ) (cells : List ℕ) → 6 * m ≤ length cells → ((i : ℕ) → i < m → (get_or cells (6 * i) 0 ≤ 1) × (get_or cells (6 * i + 1) 0 ≤ 1))
    → flat_map cells_of (rows_in m cells) ≡ take (6 * m) cells
unfolding flat_map list_to
cells-rows zero cells le h = refl
cells-rows (suc m) cells le h =
    flat_map_last cells_of (list_to m (row_at cells)) (row_at cells m)
    ∙ (λ t. cells-rows m cells (omega arith) (λ i b. h i (omega arith)) t ++ cells-row cells m (omega arith) (h m (omega arith)).0 (h m (omega arith)).1 t)
    ∙ sym (take-add (6 * m) 6 cells) ∙ ap (λ (x : ℕ). take x cells) {x = 6 * m + 6} {y = 6 * suc m} (omega arith)
