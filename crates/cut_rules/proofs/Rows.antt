-- Rows in order: what holds of each row, which contracts have one, and that each precedes every later one.
use mathlib.Core.Path.{◌≡◌, refl, sym, ap, ◌∙◌}
use mathlib.Core.Logic.{◌⊎◌, inl, inr, ⊎_elim}
use mathlib.Core.Bool.{Bool, true, false, cond, ◌&&◌, ◌||◌, true≢false}
use mathlib.Core.List.{List, [], ◌∷◌, ◌++◌, append-nil}
use Prim.Native.Nat.{ℕ, zero, suc, ◌<◌, ◌≤◌}
use native.Mathlib.Nat.{eq-or-lt_of_le}
use native.Mathlib.Omega.{arith}
use borrow.Author.Tests.{ltb-true, ltb-false, lt-ltb, le-ltb, eqb-true, eq-eqb, ne_eqb}
use lib.Dec.{ltb, eqb}
use lib.ListN.{length}
use Rattle.lists.specs.Lists.{any_of, Each}
use Rattle.lists.proofs.Lists.{each_append, each_at}
use Rattle.lists.proofs.Search.{any_of_append}
use Rattle.tariff.specs.declared.contracts.Contract.{Contract}
use Rattle.tariff.specs.declared.contracts.Period.{Period}
use Rattle.tariff.specs.declared.processes.Process.{Process}
use Rattle.tariff.specs.Units.{Grid}
use Rattle.cut_rules.specs.Cuts.{CutRow, precedes, put_row, in_order_of, has_cut, row_of, cut_rows_to}
use Rattle.cut_rules.specs.Theorems.{cut_row_at}

-- ---- the order of two rows, over plain numbers

module _ (a b m n : ℕ) where
  abbrev less : Bool
  less = ltb a b || (eqb a b && ltb m n)

  less_of : (a < b) ⊎ ((a ≡ b) × (m < n)) → less ≡ true
  less_of = ⊎_elim (λ l. rw (lt-ltb a b l)) (λ e. rw (le-ltb a b (omega (arith, e.0)), eq-eqb a b e.0) (lt-ltb m n e.1))

  of-less : less ≡ true → (a < b) ⊎ ((a ≡ b) × (m < n))
  of-less = by (ltb a b) refl (eqb a b) refl (ltb m n) refl
    where
      by : (x : Bool) → ltb a b ≡ x → (y : Bool) → eqb a b ≡ y → (z : Bool) → ltb m n ≡ z → (x || (y && z)) ≡ true → (a < b) ⊎ ((a ≡ b) × (m < n))
      by true p y q z r e = inl (ltb-true a b p)
      by false p true q true r e = inr (eqb-true a b q, ltb-true m n r)
      by false p true q false r e = absurd (true≢false (sym e))
      by false p false q z r e = absurd (true≢false (sym e))

precedes-of : (r s : CutRow) → (r.cut < s.cut) ⊎ ((r.cut ≡ s.cut) × (r.number < s.number)) → precedes r s ≡ true
precedes-of r s = less_of r.cut s.cut r.number s.number

pub of-precedes : (r s : CutRow) → precedes r s ≡ true → (r.cut < s.cut) ⊎ ((r.cut ≡ s.cut) × (r.number < s.number))
of-precedes r s = of-less r.cut s.cut r.number s.number

precedes-trans : (r s t : CutRow) → precedes r s ≡ true → precedes s t ≡ true → precedes r t ≡ true
precedes-trans r s t p q =
    precedes-of r t (
    ⊎_elim
    (λ a. ⊎_elim (λ b. inl (omega arith)) (λ b. inl (omega (arith, b.0))) (of-precedes s t q))
    (λ a. ⊎_elim (λ b. inl (omega (arith, a.0))) (λ b. inr (a.0 ∙ b.0, omega (arith, a.1, b.1))) (of-precedes s t q))
    (of-precedes r s p))

-- of two rows of different contracts one precedes the other
pub precedes-other : (r s : CutRow) → (r.number ≡ s.number → ⊥) → precedes r s ≡ false → precedes s r ≡ true
precedes-other r s h p = precedes-of s r (by (ltb s.cut r.cut) refl)
  where
    out : (r.cut < s.cut) ⊎ ((r.cut ≡ s.cut) × (r.number < s.number)) → ⊥
    out o = true≢false (sym (precedes-of r s o) ∙ p)

    by : (b : Bool) → ltb s.cut r.cut ≡ b → (s.cut < r.cut) ⊎ ((s.cut ≡ r.cut) × (s.number < r.number))
    by true e = inl (ltb-true s.cut r.cut e)
    by false e =
        let le : r.cut ≤ s.cut = ltb-false s.cut r.cut e in
        let no : ¬ (r.cut < s.cut) = λ l. out (inl l) in
        let same : r.cut ≡ s.cut = omega arith in
        let most : ¬ (r.number < s.number) = λ l. out (inr (same, l)) in
        inr (sym same, omega (arith, h))

-- ---- what holds of each row, and which rows there are

each_weaken : {A : Type 0} (P Q : A → Type 0) (xs : List A) → ((x : A) → P x → Q x) → Each P xs → Each Q xs
each_weaken P Q [] h e = tt
each_weaken P Q (x ∷ xs) h e = (h x e.0, each_weaken P Q xs h e.1)

module _ (P : CutRow → Type 0) where
  each-put : (r : CutRow) (rows : List CutRow) → P r → Each P rows → Each P (put_row r rows)
  unfolding put_row
  each-put r [] p e = (p, tt)
  each-put r (s ∷ rows) p e = by (precedes r s) (each-put r rows p e.1)
    where
      by : (b : Bool) → Each P (put_row r rows) → Each P (cond b (r ∷ s ∷ rows) (s ∷ put_row r rows))
      by true h = (p, e)
      by false h = (e.0, h)

  pub each-in_order : (rows : List CutRow) → Each P rows → Each P (in_order_of rows)
  unfolding in_order_of
  each-in_order [] e = tt
  each-in_order (r ∷ rows) e = each-put r (in_order_of rows) e.0 (each-in_order rows e.1)

module _ (p : CutRow → Bool) where
  or_swap : (a b c : Bool) → (a || (b || c)) ≡ (b || (a || c))
  or_swap true true c = refl
  or_swap true false c = refl
  or_swap false b c = refl

  any_of_put : (r : CutRow) (rows : List CutRow) → any_of p (put_row r rows) ≡ (p r || any_of p rows)
  unfolding put_row any_of
  any_of_put r [] = refl
  any_of_put r (s ∷ rows) = by (precedes r s) (any_of_put r rows)
    where
      by : (b : Bool) → any_of p (put_row r rows) ≡ (p r || any_of p rows) → any_of p (cond b (r ∷ s ∷ rows) (s ∷ put_row r rows)) ≡ (p r || (p s || any_of p rows))
      by true h = refl
      by false h = ap (λ (x : Bool). p s || x) h ∙ or_swap (p s) (p r) (any_of p rows)

  pub any_of_in_order : (rows : List CutRow) → any_of p (in_order_of rows) ≡ any_of p rows
  unfolding in_order_of any_of
  any_of_in_order [] = refl
  any_of_in_order (r ∷ rows) = any_of_put r (in_order_of rows) ∙ ap (λ (x : Bool). p r || x) (any_of_in_order rows)

-- ---- the order

-- the contracts' numbers rise, as they do in the book's order
abbrev pub NumbersRise : List CutRow → Type 0
NumbersRise [] = Unit
NumbersRise (r ∷ rows) = Each (λ (s : CutRow). r.number < s.number) rows × NumbersRise rows

abbrev Ordered : List CutRow → Type 0
Ordered [] = Unit
Ordered (r ∷ rows) = Each (λ (s : CutRow). precedes r s ≡ true) rows × Ordered rows

put_ordered : (r : CutRow) (rows : List CutRow) → Each (λ (s : CutRow). r.number < s.number) rows → Ordered rows → Ordered (put_row r rows)
unfolding put_row
put_ordered r [] h o = (tt, tt)
put_ordered r (s ∷ rows) h o = by (precedes r s) refl (put_ordered r rows h.1 o.1)
  where
    by : (b : Bool) → precedes r s ≡ b → Ordered (put_row r rows) → Ordered (cond b (r ∷ s ∷ rows) (s ∷ put_row r rows))
    by true e rest = ((e, each_weaken (λ x. precedes s x ≡ true) (λ x. precedes r x ≡ true) rows (λ x p. precedes-trans r s x e p) o.0), o)
    by false e rest = (each-put (λ x. precedes s x ≡ true) r rows (precedes-other r s (λ q. omega (arith, h.0)) e) o.0, rest)

in_order : (rows : List CutRow) → NumbersRise rows → Ordered (in_order_of rows)
unfolding in_order_of
in_order [] h = tt
in_order (r ∷ rows) h = put_ordered r (in_order_of rows) (each-in_order (λ s. r.number < s.number) rows h.0) (in_order rows h.1)

-- by index
ordered_at : (rows : List CutRow) → Ordered rows → (j k : ℕ) → j < k → k < length rows → precedes (cut_row_at rows j) (cut_row_at rows k) ≡ true
ordered_at [] o j k l h = absurd (omega arith)
ordered_at (r ∷ rows) o j zero l h = absurd (omega arith)
ordered_at (r ∷ rows) o zero (suc k) l h = each_at (λ s. precedes r s ≡ true) rows k _ o.0 (omega arith)
ordered_at (r ∷ rows) o (suc j) (suc k) l h = ordered_at rows o.1 j k (omega arith) (omega arith)

pub in_order-at : (rows : List CutRow) → NumbersRise rows → (j k : ℕ) → j < k → k < length (in_order_of rows) → precedes (cut_row_at (in_order_of rows) j) (cut_row_at (in_order_of rows) k) ≡ true
in_order-at rows h = ordered_at (in_order_of rows) (in_order rows h)

-- ---- a book's rows

-- a row of contract i
abbrev pub is : ℕ → CutRow → Bool
is i r = eqb r.number i

none-there : (i : ℕ) (rows : List CutRow) → Each (λ (r : CutRow). r.number < i) rows → any_of (is i) rows ≡ false
unfolding any_of
none-there i [] h = refl
none-there i (r ∷ rows) h = rw (ne_eqb r.number i (λ e. omega (arith, h.0)), none-there i rows h.1)

-- one row, or none
some_one : (i : ℕ) (r : CutRow) (b : Bool) → eqb r.number i ≡ b → (c : Bool) → any_of (is i) (cond c (r ∷ []) []) ≡ (b && c)
unfolding any_of
some_one i r true e true = rw e
some_one i r true e false = refl
some_one i r false e true = rw e
some_one i r false e false = refl

or-false : (b : Bool) → (b || false) ≡ b
or-false true = refl
or-false false = refl

rise_more : (rows : List CutRow) (r : CutRow) → NumbersRise rows → Each (λ (s : CutRow). s.number < r.number) rows → NumbersRise (rows ++ r ∷ [])
rise_more [] r h e = (tt, tt)
rise_more (s ∷ rows) r h e = (each_append (λ x. s.number < x.number) rows (r ∷ []) h.0 (e.0, tt), rise_more rows r h.1 e.1)

module _ (g : Grid) (process : Process) (period : Period) (cs : List Contract) where
  abbrev rows : ℕ → List CutRow
  rows = cut_rows_to g process period cs

  abbrev last_row : ℕ → List CutRow
  last_row m = cond (has_cut g process period cs m) (row_of g process period cs m ∷ []) []

  pub each_row : (P : CutRow → Type 0) (m : ℕ) → ((i : ℕ) → i < m → has_cut g process period cs i ≡ true → P (row_of g process period cs i)) → Each P (rows m)
  unfolding cut_rows_to
  each_row P zero h = tt
  each_row P (suc m) h = each_append P (rows m) _ (each_row P m (λ i b. h i (omega arith))) (by (has_cut g process period cs m) refl)
    where
      by : (b : Bool) → has_cut g process period cs m ≡ b → Each P (cond b (row_of g process period cs m ∷ []) [])
      by true e = (h m (omega arith) e, tt)
      by false e = tt

  numbers-below : (m : ℕ) → Each (λ (r : CutRow). r.number < m) (rows m)
  numbers-below m = each_row (λ r. r.number < m) m (λ i b c. b)

  pub numbers-rise : (m : ℕ) → NumbersRise (rows m)
  unfolding cut_rows_to
  numbers-rise zero = tt
  numbers-rise (suc m) = by (has_cut g process period cs m) (numbers-rise m)
    where
      by : (b : Bool) → NumbersRise (rows m) → NumbersRise (rows m ++ cond b (row_of g process period cs m ∷ []) [])
      by true h = rise_more (rows m) (row_of g process period cs m) h (numbers-below m)
      by false h = rw append-nil h

  -- contract i has a row exactly where it has a cut
  pub row-there : (i m : ℕ) → i < m → any_of (is i) (rows m) ≡ has_cut g process period cs i
  unfolding cut_rows_to
  row-there i zero h = absurd (omega arith)
  row-there i (suc m) h = any_of_append (is i) (rows m) _ ∙ ⊎_elim here (before (row-there i m)) (eq-or-lt_of_le h)
    where
      here : suc i ≡ suc m → (any_of (is i) (rows m) || any_of (is i) (last_row m)) ≡ has_cut g process period cs i
      here e =
          let same : i ≡ m = omega arith in
          rw (same, none-there m (rows m) (numbers-below m)) (some_one m (row_of g process period cs m) true (eq-eqb m m refl) (has_cut g process period cs m))

      before : (i < m → any_of (is i) (rows m) ≡ has_cut g process period cs i) → suc i < suc m → (any_of (is i) (rows m) || any_of (is i) (last_row m)) ≡ has_cut g process period cs i
      before rest l =
          rw (rest (omega arith), some_one i (row_of g process period cs m) false (ne_eqb m i (λ e. omega arith)) (has_cut g process period cs m)) (or-false (has_cut g process period cs i))
