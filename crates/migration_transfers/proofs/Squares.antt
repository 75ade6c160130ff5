-- Squares cell by cell, and sizes of nets.
use mathlib.Core.Path.{◌≡◌, refl, sym, ap, ◌∙◌}
use mathlib.Core.Logic.{◌≢◌}
use mathlib.Core.Bool.{Bool, true, false, cond, ◌&&◌}
use mathlib.Core.List.{List, [], ◌∷◌}
use Prim.Native.Nat.{ℕ, suc, ◌-◌, ◌*◌, ◌≤◌, ◌<◌}
use native.Mathlib.Nat.{mul-le-mul, mul-le-mul_left, le_trans}
use native.Mathlib.Omega.{arith}
use borrow.Author.Tests.{eqb-true, eqb-false, eq-eqb, ne_eqb}
use lib.Dec.{eqb}
use lib.ListN.{length, get_or, set, length-set}
use lib.Seq.{get_or-set_same, get_or-set_other}
use lib.IntN.{ℤ, pos, neg_ℤ, nat_abs, ◌+ℤ◌, ◌-ℤ◌}
use Rattle.lists.specs.Lists.{Each}
use Rattle.lists.proofs.Search.{both}
use Rattle.integers.specs.Sums.{max0}
use Rattle.integers.proofs.Sizes.{nat_abs_sub, nat_abs_sum_over}
use Rattle.integers.proofs.Linear.{⊖of, ⊖s}
use Rattle.tariff.specs.declared.units.Transfer.{Transfer}
use Rattle.tariff.specs.Units.{max_entities, max_rows, max_customers, max_rate}
use Rattle.largest_remainders.proofs.Counting.{add_to-cong}
use Rattle.migration_rules.specs.Transfers.{MigrationRow, moved, net, losses_to}
use Rattle.migration_transfers.specs.Squares.{no_transfer, cell_in_of, row_losses, lost_in}
use Rattle.migration_transfers.specs.Inner.{max_net, stored, transferred, Shaped, SizedRow, SizedSquare, RowIn}

-- ---- one cell stored

module _ (square : List (List Transfer)) (shape : Shaped square) (i j : ℕ) (hi : i < max_entities) (hj : j < max_entities) (x : Transfer) where
  row-stored : get_or (stored square i j x) i [] ≡ set (get_or square i []) j x
  unfolding stored
  row-stored = get_or-set_same square i (set (get_or square i []) j x) [] (omega (arith, shape.long))

  other_row : (k : ℕ) → (k ≡ i → ⊥) → get_or (stored square i j x) k [] ≡ get_or square k []
  unfolding stored
  other_row k h = get_or-set_other square i k (set (get_or square i []) j x) [] h

  pub cell_stored : (k l : ℕ) → cell_in_of (stored square i j x) k l ≡ cond (eqb i k && eqb j l) x.0 (cell_in_of square k l)
  cell_stored k l = by (eqb i k) refl
    where
      in_row : (b : Bool) → eqb j l ≡ b → (get_or (set (get_or square i []) j x) l no_transfer).0 ≡ cond b x.0 (cell_in_of square i l)
      in_row true e = rw (← eqb-true j l e) (ap (λ (t : Transfer). t.0) (get_or-set_same (get_or square i []) j x no_transfer (omega (arith, shape.wide i hi))))
      in_row false e = ap (λ (t : Transfer). t.0) (get_or-set_other (get_or square i []) j l x no_transfer (λ q. eqb-false j l e (sym q)))

      by : (b : Bool) → eqb i k ≡ b → cell_in_of (stored square i j x) k l ≡ cond (b && eqb j l) x.0 (cell_in_of square k l)
      by true e = rw (← eqb-true i k e) (ap (λ (r : List Transfer). (get_or r l no_transfer).0) row-stored ∙ in_row (eqb j l) refl)
      by false e = ap (λ (r : List Transfer). (get_or r l no_transfer).0) (other_row k (λ q. eqb-false i k e (sym q)))

  long-stored : length (stored square i j x) ≡ max_entities
  unfolding stored
  long-stored = simp length-set shape.long

  pub shape-stored : Shaped (stored square i j x)
  shape-stored = record { long = long-stored; wide = λ k h. by k h (eqb i k) refl }
    where
      by : (k : ℕ) → k < max_entities → (b : Bool) → eqb i k ≡ b → length (get_or (stored square i j x) k []) ≡ max_entities
      by k h true e = rw (← eqb-true i k e) (ap length row-stored ∙ simp length-set (shape.wide i hi))
      by k h false e = ap length (other_row k (λ q. eqb-false i k e (sym q))) ∙ shape.wide k h

-- ---- a transfer in a cell and its mirror

-- a number one higher, against one one higher
next-eqb : (a k o : ℕ) → o ≡ suc a → eqb o (suc k) ≡ eqb a k
next-eqb a k o e = by (eqb a k) refl
  where
    by : (b : Bool) → eqb a k ≡ b → eqb o (suc k) ≡ b
    by true q = eq-eqb o (suc k) (e ∙ ap suc (eqb-true a k q))
    by false q = ne_eqb o (suc k) (λ r. eqb-false a k q (omega arith))

and_comm : (a b : Bool) → (a && b) ≡ (b && a)
and_comm true true = refl
and_comm true false = refl
and_comm false true = refl
and_comm false false = refl

-- what stands at a cell: with a at the transfer's own, with b at its mirror
two_cells : (a b : Bool) (A B C : ℤ) (n : ℕ) → (a ≡ true → A ≡ C) → (b ≡ true → B ≡ C) → (a ≡ true → b ≡ true → ⊥)
    → cond b (B +ℤ neg_ℤ (pos n)) (cond a (A +ℤ pos n) C) ≡ C +ℤ (pos (cond a n 0) -ℤ pos (cond b n 0))
two_cells true true A B C n ha hb other = absurd (other refl refl)
two_cells true false A B C n ha hb other = rw (ha refl) (plus C (pos n))
  where
    plus : (c x : ℤ) → c +ℤ x ≡ c +ℤ (x -ℤ pos 0)
    plus c x = rw (⊖of c, ⊖of x) (simp ⊖s (omega arith))
two_cells false true A B C n ha hb other = rw (hb refl) (minus C (pos n))
  where
    minus : (c x : ℤ) → c +ℤ neg_ℤ x ≡ c +ℤ (pos 0 -ℤ x)
    minus c x = rw (⊖of c, ⊖of x) (simp ⊖s (omega arith))
two_cells false false A B C n ha hb other = none C
  where
    none : (c : ℤ) → c ≡ c +ℤ (pos 0 -ℤ pos 0)
    none c = rw (⊖of c) (simp ⊖s (omega arith))

module _ (square : List (List Transfer)) (shape : Shaped square) (from to : ℕ) (hf : from < max_entities) (ht : to < max_entities) (apart : from ≢ to) where
  pub shape-transferred : (x : ℤ) → Shaped (transferred square from to x)
  unfolding transferred
  shape-transferred x = shape-stored _ (shape-stored square shape from to hf ht (record { 0 = cell_in_of square from to +ℤ x })) to from ht hf _

  -- as a row of the lists moves it
  pub cell_transferred : (r : MigrationRow) → r.old ≡ suc from → r.new ≡ suc to → (k l : ℕ)
      → cell_in_of (transferred square from to (pos (r.customers * r.rate))) k l ≡ cell_in_of square k l +ℤ (pos (moved r (suc k) (suc l)) -ℤ pos (moved r (suc l) (suc k)))
  unfolding transferred moved
  cell_transferred r eo en k l =
      let n = r.customers * r.rate in
      cell_stored _ (shape-stored square shape from to hf ht (record { 0 = cell_in_of square from to +ℤ pos n })) to from ht hf (record { 0 = cell_in_of square to from +ℤ neg_ℤ (pos n) }) k l
      ∙ ap (λ (z : ℤ). cond (eqb to k && eqb from l) (cell_in_of square to from +ℤ neg_ℤ (pos n)) z) (cell_stored square shape from to hf ht (record { 0 = cell_in_of square from to +ℤ pos n }) k l)
      ∙ two_cells (eqb from k && eqb to l) (eqb to k && eqb from l) (cell_in_of square from to) (cell_in_of square to from) (cell_in_of square k l) n
      (λ e. let p = both (eqb from k) (eqb to l) e in rw (eqb-true from k p.0, eqb-true to l p.1))
      (λ e. let p = both (eqb to k) (eqb from l) e in rw (eqb-true to k p.0, eqb-true from l p.1))
      (λ e f. apart (eqb-true from k (both (eqb from k) (eqb to l) e).0 ∙ sym (eqb-true to k (both (eqb to k) (eqb from l) f).0)))
      ∙ rw (next-eqb from k r.old eo, next-eqb to l r.new en, next-eqb from l r.old eo, next-eqb to k r.new en, and_comm (eqb to k) (eqb from l))

-- ---- sizes

abbrev max_row : ℕ
max_row = max_customers * max_rate

moved-sized : (r : MigrationRow) → RowIn r → (i j : ℕ) → moved r i j ≤ max_row
unfolding moved
moved-sized r ok i j = by (eqb r.old i && eqb r.new j)
  where
    by : (b : Bool) → cond b (r.customers * r.rate) 0 ≤ max_row
    by true = mul-le-mul ok.customers-most ok.rate-most
    by false = omega arith

pub net-sized : (rows : List MigrationRow) → length rows ≤ max_rows → Each RowIn rows → (i j : ℕ) → nat_abs (net rows i j) ≤ max_net
unfolding net
net-sized rows few ok i j =
    le_trans (nat_abs_sum_over (2 * max_row) (λ r. pos (moved r i j) -ℤ pos (moved r j i)) rows (each rows ok)) (mul-le-mul_left (2 * max_row) few)
  where
    each : (rows : List MigrationRow) → Each RowIn rows → Each (λ (r : MigrationRow). nat_abs (pos (moved r i j) -ℤ pos (moved r j i)) ≤ 2 * max_row) rows
    each [] h = tt
    each (r ∷ rows) h =
        (omega (arith, nat_abs_sub (pos (moved r i j)) (pos (moved r j i)), moved-sized r h.0 i j, moved-sized r h.0 j i), each rows h.1)

-- ---- what is lost, by a row

-- LSE i + 1 has row i
pub lost_at_lem : (square : List (List Transfer)) (i j : ℕ) → lost_in square (suc i) (suc j) ≡ nat_abs (max0 (cell_in_of square i j))
lost_at_lem square i j =
    let a : suc i - 1 ≡ i = omega arith in
    let b : suc j - 1 ≡ j = omega arith in
    rw (a, b)

pub row_sized : (square : List (List Transfer)) → SizedSquare square → (i : ℕ) → i < max_entities → SizedRow (get_or square i [])
row_sized square size i h = record { sized = λ j b. size.sized i j h b }

pub losses-by : (square : List (List Transfer)) (i m : ℕ) → losses_to (row_losses (get_or square i [])) (suc i) m ≡ losses_to (lost_in square) (suc i) m
unfolding losses_to
losses-by square i m = let a : suc i - 1 ≡ i = omega arith in add_to-cong m (λ j b. rw a)
