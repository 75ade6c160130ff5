-- Rows netted one after the other: the square at the start, a turn, and the end.
use mathlib.Core.Path.{◌≡◌, refl, sym, ◌∙◌}
use mathlib.Core.Logic.{◌≢◌}
use mathlib.Core.Bool.{Bool, true, ◌&&◌}
use mathlib.Core.List.{List, [], ◌∷◌}
use Prim.Native.Nat.{ℕ, zero, suc, ◌+◌, ◌-◌, ◌*◌, ◌≤◌, ◌<◌}
use native.Mathlib.Nat.{mul-le-mul, le_trans}
use native.Mathlib.Omega.{arith}
use borrow.Author.Tests.{eqb-true}
use lib.Dec.{eqb}
use lib.ListN.{length, get_or}
use lib.IntN.{pos, nat_abs}
use Rattle.lists.specs.Lists.{list_to}
use Rattle.lists.proofs.Lists.{length-list_to, list_to-more, each-list_to}
use Rattle.lists.proofs.Search.{both}
use Rattle.integers.proofs.Sizes.{zero_size}
use Rattle.tariff.specs.declared.units.Transfer.{Transfer}
use Rattle.tariff.specs.Units.{max_entities}
use Rattle.migration_rules.specs.Transfers.{rows_of}
use Rattle.migration_rules.proofs.Nets.{net-none, net-more}
use Rattle.migration_transfers.specs.Squares.{no_transfer, cell_in_of, Nets}
use Rattle.migration_transfers.specs.Inner.{max_net, transferred, Shaped, NetSquare, RowIn, migration_row_at, migration_rows_to, RowsIn}
use Rattle.migration_transfers.proofs.Squares.{shape-transferred, cell_transferred, net-sized}

-- ---- a square of zeros, by a computed test

abbrev pub blank_row : List Transfer → Bool
blank_row [] = true
blank_row (x ∷ xs) = eqb (nat_abs x.0) 0 && blank_row xs

abbrev pub blank : List (List Transfer) → Bool
blank [] = true
blank (r ∷ rs) = (eqb (length r) max_entities && blank_row r) && blank rs

blank_at : (xs : List Transfer) → blank_row xs ≡ true → (j : ℕ) → (get_or xs j no_transfer).0 ≡ pos 0
blank_at [] e j = refl
blank_at (x ∷ xs) e zero = zero_size x.0 (eqb-true (nat_abs x.0) 0 (both (eqb (nat_abs x.0) 0) (blank_row xs) e).0)
blank_at (x ∷ xs) e (suc j) = blank_at xs (both (eqb (nat_abs x.0) 0) (blank_row xs) e).1 j

pub blank_cell : (rows : List (List Transfer)) → blank rows ≡ true → (i j : ℕ) → cell_in_of rows i j ≡ pos 0
blank_cell [] e i j = refl
blank_cell (r ∷ rs) e zero j =
    let p = both (eqb (length r) max_entities && blank_row r) (blank rs) e in
    blank_at r (both (eqb (length r) max_entities) (blank_row r) p.0).1 j
blank_cell (r ∷ rs) e (suc i) j = blank_cell rs (both (eqb (length r) max_entities && blank_row r) (blank rs) e).1 i j

blank_wide : (rows : List (List Transfer)) → blank rows ≡ true → (i : ℕ) → i < length rows → length (get_or rows i []) ≡ max_entities
blank_wide [] e i h = absurd (omega arith)
blank_wide (r ∷ rs) e zero h =
    let p = both (eqb (length r) max_entities && blank_row r) (blank rs) e in
    eqb-true (length r) max_entities (both (eqb (length r) max_entities) (blank_row r) p.0).0
blank_wide (r ∷ rs) e (suc i) h = blank_wide rs (both (eqb (length r) max_entities && blank_row r) (blank rs) e).1 i (omega arith)

pub blank_square : (rows : List (List Transfer)) → blank rows ≡ true → length rows ≡ max_entities → NetSquare [] rows
blank_square rows e long =
    record {
      nets = record { cells = λ i j hi hj. blank_cell rows e i j ∙ sym (net-none (suc i) (suc j)) };
      shape = record { long = long; wide = λ i h. blank_wide rows e i (omega (arith, long)) };
      size = record { sized = λ i j hi hj. rw (blank_cell rows e i j) (omega arith) };
    }

-- ---- row i more

module _ (customers rates olds news : List ℕ) (ok : RowsIn customers rates olds news) where
  sized-to : (i : ℕ) → i ≤ length customers → (square : List (List Transfer)) → Nets (list_to i (migration_row_at customers rates olds news)) square
      → (k l : ℕ) → k < max_entities → l < max_entities → nat_abs (cell_in_of square k l) ≤ max_net
  sized-to i h square nets k l hk hl =
      let at = migration_row_at customers rates olds news in
      rw (nets.cells k l hk hl) (net-sized (list_to i at) (omega (arith, length-list_to i at, ok.few)) (each-list_to RowIn i at (λ j b. ok.each j (omega arith))) (suc k) (suc l))

  module _ (i : ℕ) (h : i < length customers) where
    abbrev from : ℕ
    from = get_or olds i 0 - 1

    abbrev to : ℕ
    to = get_or news i 0 - 1

    pub from_below : from < max_entities
    from_below = omega (arith, (ok.each i h).old-most, (ok.each i h).old-some)

    pub to_below : to < max_entities
    to_below = omega (arith, (ok.each i h).new-most, (ok.each i h).new-some)

    pub from_apart : from ≢ to
    from_apart e = (ok.each i h).apart (omega (arith, (ok.each i h).old-some, (ok.each i h).new-some))

    pub load_sized : get_or customers i 0 * get_or rates i 0 ≤ max_net
    load_sized = le_trans (mul-le-mul (ok.each i h).customers-most (ok.each i h).rate-most) (omega arith)

    module _ (square : List (List Transfer)) (nets : Nets (list_to i (migration_row_at customers rates olds news)) square) where
      pub cell_sized : (nat_abs (cell_in_of square from to) ≤ max_net) × (nat_abs (cell_in_of square to from) ≤ max_net)
      cell_sized = (sized-to i (omega arith) square nets from to from_below to_below, sized-to i (omega arith) square nets to from to_below from_below)

      pub nets-more : Shaped square → Nets (list_to (i + 1) (migration_row_at customers rates olds news)) (transferred square from to (pos (get_or customers i 0 * get_or rates i 0)))
      nets-more shape =
          let at = migration_row_at customers rates olds news in
          record {
            cells = λ k l hk hl.
                rw (list_to-more i at, net-more (list_to i at) (at i) (suc k) (suc l), ← nets.cells k l hk hl)
                (cell_transferred square shape from to from_below to_below from_apart (at i) (omega (arith, (ok.each i h).old-some)) (omega (arith, (ok.each i h).new-some)) k l);
          }

      pub shape-more : Shaped square → Shaped (transferred square from to (pos (get_or customers i 0 * get_or rates i 0)))
      shape-more shape = shape-transferred square shape from to from_below to_below from_apart (pos (get_or customers i 0 * get_or rates i 0))

  -- the first m rows
  pub nets-end : (m : ℕ) → m ≤ length customers → (square : List (List Transfer)) → Nets (migration_rows_to m customers rates olds news) square → Shaped square
      → NetSquare (migration_rows_to m customers rates olds news) square
  nets-end m h square nets shape = record { nets = nets; shape = shape; size = record { sized = sized-to m h square nets } }

-- all of them
pub all-rows : (customers rates olds news : List ℕ) → migration_rows_to (length customers) customers rates olds news ≡ rows_of customers rates olds news
unfolding rows_of
all-rows customers rates olds news = refl

-- none yet
pub no_rows : (customers rates olds news : List ℕ) → migration_rows_to 0 customers rates olds news ≡ []
unfolding list_to
no_rows customers rates olds news = refl
