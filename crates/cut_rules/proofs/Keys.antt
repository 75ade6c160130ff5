-- Rows as numbers: sorted numbers are rows in order, and the numbers that the closed form gives are the rows of a failing book.
use mathlib.Core.Path.{◌≡◌, refl, sym, ap, ap₂, ◌∙◌}
use mathlib.Core.Logic.{⊎_elim}
use mathlib.Core.Bool.{Bool, true, false, cond, ◌&&◌, true≢false}
use mathlib.Core.List.{List, [], ◌∷◌, ◌++◌, map, map-append}
use Prim.Native.Nat.{ℕ, zero, suc, ◌/◌, ◌%◌, ◌<◌, ◌≤◌}
use native.Mathlib.Omega.{arith}
use borrow.Author.Tests.{leb-true, lt-ltb, le-leb, lt-leb}
use lib.Arith.{digits_div, digits_mod}
use lib.Dec.{ltb, leb}
use lib.ListN.{length}
use lib.IntN.{ℤ}
use Rattle.lists.specs.Lists.{Each}
use Rattle.lists.proofs.Search.{both}
use Rattle.sorting.specs.Sorted.{insert, merged, sorted}
use Rattle.tariff.specs.declared.contracts.Contract.{Contract}
use Rattle.tariff.specs.declared.contracts.Period.{Period}
use Rattle.tariff.specs.declared.processes.Process.{Process}
use Rattle.tariff.specs.Units.{Grid}
use Rattle.tariff.specs.ContractRules.{same_period, of_period}
use Rattle.tariff.specs.Feasibility.{excess}
use Rattle.cut_rules.specs.Cuts.{nth_contract, quantity_of, CutRow, precedes, put_row, in_order_of, passing, least_cut, has_cut, row_of, cut_rows_to, least_cuts}
use Rattle.cut_rules.specs.Inner.{need, enough, closed, slope, closed_or, closed_cut, cut_or0, cut_key, row_key, keys_to}
use Rattle.cut_rules.proofs.Cuts.{passing-is, least-is_closed, least-positive}
use Rattle.cut_rules.proofs.Rows.{of-precedes, precedes-other, each-in_order, each_row, NumbersRise}

-- ---- the order of keys is that of rows

key_compare : (r s : CutRow) → r.number < s.number → s.number < 1024 → leb (row_key r) (row_key s) ≡ precedes r s
key_compare r s h b = by (precedes r s) refl
  where
    by : (x : Bool) → precedes r s ≡ x → leb (row_key r) (row_key s) ≡ x
    by true e = le-leb (row_key r) (row_key s) (⊎_elim (λ l. omega arith) (λ l. omega (arith, l.0, l.1)) (of-precedes r s e))
    by false e =
        lt-leb (row_key r) (row_key s)
        (⊎_elim (λ l. omega arith) (λ l. omega (arith, l.0, l.1)) (of-precedes s r (precedes-other r s (λ q. omega arith) e)))

-- numbers that a key holds
abbrev pub Few : List CutRow → Type 0
Few rows = Each (λ (r : CutRow). r.number < 1024) rows

keys_put : (r : CutRow) (rows : List CutRow) → Each (λ (s : CutRow). r.number < s.number) rows → Few rows → map row_key (put_row r rows) ≡ insert (row_key r) (map row_key rows)
unfolding put_row insert
keys_put r [] h f = refl
keys_put r (s ∷ rows) h f = rw (key_compare r s h.0 f.0) (by (precedes r s) (keys_put r rows h.1 f.1))
  where
    by : (b : Bool) → map row_key (put_row r rows) ≡ insert (row_key r) (map row_key rows)
        → map row_key (cond b (r ∷ s ∷ rows) (s ∷ put_row r rows)) ≡ cond b (row_key r ∷ row_key s ∷ map row_key rows) (row_key s ∷ insert (row_key r) (map row_key rows))
    by true e = refl
    by false e = ap (λ (keys : List ℕ). row_key s ∷ keys) e

pub keys_in_order : (rows : List CutRow) → NumbersRise rows → Few rows → map row_key (in_order_of rows) ≡ sorted (map row_key rows)
unfolding in_order_of merged
keys_in_order [] h f = refl
keys_in_order (r ∷ rows) h f =
    keys_put r (in_order_of rows) (each-in_order (λ s. r.number < s.number) rows h.0) (each-in_order (λ s. s.number < 1024) rows f.1)
    ∙ ap (insert (row_key r)) (keys_in_order rows h.1 f.1)

-- a book of no more contracts has such rows alone
pub few-rows : (g : Grid) (process : Process) (period : Period) (cs : List Contract) → length cs ≤ 1024 → Few (least_cuts g process period cs)
unfolding least_cuts
few-rows g process period cs h = by (passing g process period cs)
  where
    own : Few (cut_rows_to g process period cs (length cs))
    own = each_row g process period cs (λ r. r.number < 1024) (length cs) (λ i b c. omega arith)

    by : (b : Bool) → Few (cond b [] (in_order_of (cut_rows_to g process period cs (length cs))))
    by true = tt
    by false = each-in_order (λ r. r.number < 1024) (cut_rows_to g process period cs (length cs)) own

-- ---- a row from its key

pub key_numbers : (rows : List CutRow) → Few rows → map (λ (x : ℕ). x % 1024) (map row_key rows) ≡ map (λ (r : CutRow). r.number) rows
key_numbers [] f = refl
key_numbers (r ∷ rows) f = ap₂ (λ (x : ℕ) (xs : List ℕ). x ∷ xs) (digits_mod r.cut f.0) (key_numbers rows f.1)

pub key_cuts : (rows : List CutRow) → Few rows → map (λ (x : ℕ). x / 1024) (map row_key rows) ≡ map (λ (r : CutRow). r.cut) rows
key_cuts [] f = refl
key_cuts (r ∷ rows) f = ap₂ (λ (x : ℕ) (xs : List ℕ). x ∷ xs) (digits_div r.cut f.0) (key_cuts rows f.1)

-- ---- the keys that code collects

-- one row, by whether the need is a cut: x is the least cut, one more than q for none
by_need : (b : Bool) (m q i x : ℕ) → x ≡ cond b m (suc q) → 0 < x → (b ≡ true → m ≤ q)
    → cond (ltb 0 (cond b m 0)) (cut_key (cond b m 0) i ∷ []) [] ≡ map row_key (cond (leb x q) (record { number = i; cut = x } ∷ []) [])
by_need true m q i x e h l = rw (e, le-leb m q (l refl), lt-ltb 0 m (omega arith))
by_need false m q i x e h l = rw (e, lt-leb (suc q) q (omega arith))

closed-key : (n : ℕ) (e w : ℕ → ℤ) (q i x : ℕ) → x ≡ closed n e w q (suc q) → 0 < x
    → cond (ltb 0 (closed n e w q 0)) (cut_key (closed n e w q 0) i ∷ []) [] ≡ map row_key (cond (leb x q) (record { number = i; cut = x } ∷ []) [])
unfolding closed
closed-key n e w q i x is h =
    by_need (leb (need n e w) q && enough n e w (need n e w)) (need n e w) q i x is h
    (λ b. leb-true (need n e w) q (both (leb (need n e w) q) (enough n e w (need n e w)) b).0)

-- none of the other period
of-period : (i : ℕ) (s : Bool) (C : ℕ) (c : Bool) (r : CutRow) → cond (ltb 0 C) (cut_key C i ∷ []) [] ≡ map row_key (cond c (r ∷ []) [])
    → cond (ltb 0 (cond s C 0)) (cut_key (cond s C 0) i ∷ []) [] ≡ map row_key (cond (s && c) (r ∷ []) [])
of-period i true C c r h = h
of-period i false C c r h = refl

module _ (g : Grid) (process : Process) (period : Period) (cs : List Contract) (failing : passing g process period cs ≡ false) where
  above : (i : ℕ) → 0 < least_cut g process period cs i
  above i = least-positive g process period cs i (λ p. true≢false (sym ((passing-is g process period cs).1 p) ∙ failing))

  closed-row : (i : ℕ) → let C = closed_or g process period cs 0 i in
      cond (ltb 0 C) (cut_key C i ∷ []) [] ≡ map row_key (cond (leb (least_cut g process period cs i) (quantity_of cs i)) (row_of g process period cs i ∷ []) [])
  unfolding closed_cut
  closed-row i =
      closed-key g.factors.constraints (excess g process (of_period period cs)) (slope g.factors period (nth_contract cs i)) (quantity_of cs i) i (least_cut g process period cs i)
      (least-is_closed g process period cs i) (above i)

  row-key : (i : ℕ) → let C = cut_or0 g process period cs i in
      cond (ltb 0 C) (cut_key C i ∷ []) [] ≡ map row_key (cond (has_cut g process period cs i) (row_of g process period cs i ∷ []) [])
  unfolding cut_or0 has_cut
  row-key i = of-period i (same_period (nth_contract cs i).period period) _ _ (row_of g process period cs i) (closed-row i)

  -- the numbers of a book's rows
  pub keys_are : (cut_of : ℕ → ℕ) (m : ℕ) → ((i : ℕ) → i < m → cut_of i ≡ cut_or0 g process period cs i) → keys_to cut_of m ≡ map row_key (cut_rows_to g process period cs m)
  unfolding keys_to cut_rows_to
  keys_are cut_of zero h = refl
  keys_are cut_of (suc m) h =
      ap₂ ◌++◌ (keys_are cut_of m (λ i b. h i (omega arith)))
      (ap (λ (c : ℕ). cond (ltb 0 c) (cut_key c m ∷ []) []) (h m (omega arith)) ∙ row-key m)
      ∙ sym (map-append row_key (cut_rows_to g process period cs m) _)
