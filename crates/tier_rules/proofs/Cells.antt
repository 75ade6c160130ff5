-- Cells of the buffers after a block was copied and after marks were dropped.
use mathlib.Core.Path.{◌≡◌, refl, ◌∙◌}
use mathlib.Core.Logic.{◌≢◌, ⊎_elim}
use mathlib.Core.Bool.{Bool, true, false, cond}
use mathlib.Core.List.{List, ◌++◌}
use Prim.Native.Nat.{ℕ, zero, suc, ◌+◌, ◌-◌, ◌≤◌, ◌<◌}
use native.Mathlib.Nat.{eq-or-lt_of_le}
use native.Mathlib.Omega.{arith}
use lib.Dec.{ltb}
use lib.ListN.{length, get_or, set, take, drop, length-append, length-set, length-drop, get_or-append}
use lib.Seq.{get_or-append-add, get_or-take, get_or-drop, get_or-set_same, get_or-set_other, length-take-le}
use lib.IntN.{ℤ, pos}
use Rattle.tariff.specs.Units.{max_constraints}
use Rattle.tier_rules.specs.Cells.{flag_cell, held_cell, copied, drop_mark_of, drop_marks_of}

-- ---- a block copied

-- a cell behind the first n
pub behind : {A : Type 0} (p q : List A) (n k : ℕ) (d : A) → length p ≡ n → get_or (p ++ q) (n + k) d ≡ get_or q k d
behind p q n k d e = rw (← e) (get_or-append-add p q k d)

module _ (from to : ℕ) (flows : List ℤ) (target : to + max_constraints ≤ length flows) (source : from + max_constraints ≤ length flows) where
  abbrev block : List ℤ
  block = take max_constraints (drop from flows)

  block-long : length block ≡ max_constraints
  block-long = length-take-le max_constraints (drop from flows) (rw length-drop (omega arith))

  front_long : length (take to flows) ≡ to
  front_long = length-take-le to flows (omega arith)

  -- the cells up to the block's end
  abbrev upto : List ℤ
  upto = take to flows ++ block

  upto_long : length upto ≡ to + max_constraints
  upto_long = length-append (take to flows) block ∙ (λ i. front_long i + block-long i)

  pub copied-before : (j : ℕ) → j < to → get_or (copied from to flows) j (pos 0) ≡ get_or flows j (pos 0)
  copied-before j h =
      get_or-append upto (drop (to + max_constraints) flows) (pos 0) j (omega (arith, upto_long))
      ∙ get_or-append (take to flows) block (pos 0) j (rw front_long h)
      ∙ get_or-take to flows j (pos 0) h

  pub copied-here : (k : ℕ) → k < max_constraints → get_or (copied from to flows) (to + k) (pos 0) ≡ get_or flows (from + k) (pos 0)
  copied-here k h =
      get_or-append upto (drop (to + max_constraints) flows) (pos 0) (to + k) (omega (arith, upto_long))
      ∙ behind (take to flows) block to k (pos 0) front_long
      ∙ get_or-take max_constraints (drop from flows) k (pos 0) h
      ∙ get_or-drop from flows k (pos 0)

  copied-after : (k : ℕ) → get_or (copied from to flows) (to + max_constraints + k) (pos 0) ≡ get_or flows (to + max_constraints + k) (pos 0)
  copied-after k = behind upto (drop (to + max_constraints) flows) (to + max_constraints) k (pos 0) upto_long ∙ get_or-drop (to + max_constraints) flows k (pos 0)

  -- any cell that stands behind
  pub copied_behind : (j : ℕ) → to + max_constraints ≤ j → get_or (copied from to flows) j (pos 0) ≡ get_or flows j (pos 0)
  copied_behind j h =
      let e : j ≡ to + max_constraints + (j - (to + max_constraints)) = omega arith in
      rw e (copied-after (j - (to + max_constraints)))

-- ---- marks dropped

module _ (m j : ℕ) (numbers : List ℕ) where
  pub length-drop_mark : length (drop_mark_of m j numbers) ≡ length numbers
  length-drop_mark = by (ltb m (get_or numbers (held_cell j) 0))
    where
      by : (b : Bool) → length (cond b (set numbers (flag_cell j) 0) numbers) ≡ length numbers
      by true = length-set numbers (flag_cell j) 0
      by false = refl

  drop-mark_else : (x : ℕ) → x ≢ flag_cell j → get_or (drop_mark_of m j numbers) x 0 ≡ get_or numbers x 0
  drop-mark_else x ne = by (ltb m (get_or numbers (held_cell j) 0))
    where
      by : (b : Bool) → get_or (cond b (set numbers (flag_cell j) 0) numbers) x 0 ≡ get_or numbers x 0
      by true = get_or-set_other numbers (flag_cell j) x 0 0 ne
      by false = refl

  drop-mark_here : flag_cell j < length numbers → get_or (drop_mark_of m j numbers) (flag_cell j) 0 ≡ cond (ltb m (get_or numbers (held_cell j) 0)) 0 (get_or numbers (flag_cell j) 0)
  drop-mark_here h = by (ltb m (get_or numbers (held_cell j) 0))
    where
      by : (b : Bool) → get_or (cond b (set numbers (flag_cell j) 0) numbers) (flag_cell j) 0 ≡ cond b 0 (get_or numbers (flag_cell j) 0)
      by true = get_or-set_same numbers (flag_cell j) 0 0 h
      by false = refl

module _ (m : ℕ) (numbers : List ℕ) where
  pub length-drop_marks : (J : ℕ) → length (drop_marks_of m J numbers) ≡ length numbers
  unfolding drop_marks_of
  length-drop_marks zero = refl
  length-drop_marks (suc J) = length-drop_mark m (suc J) (drop_marks_of m J numbers) ∙ length-drop_marks J

  -- a cell that is no flag of them
  pub drop-marks_else : (J x : ℕ) → ((j : ℕ) → 1 ≤ j → j ≤ J → x ≢ flag_cell j) → get_or (drop_marks_of m J numbers) x 0 ≡ get_or numbers x 0
  unfolding drop_marks_of
  drop-marks_else zero x ne = refl
  drop-marks_else (suc J) x ne =
      drop-mark_else m (suc J) (drop_marks_of m J numbers) x (ne (suc J) (omega arith) (omega arith)) ∙ drop-marks_else J x (λ j a b. ne j a (omega arith))

  -- numbers at marks stay
  pub drop-marks_held : (J j : ℕ) → get_or (drop_marks_of m J numbers) (held_cell j) 0 ≡ get_or numbers (held_cell j) 0
  drop-marks_held J j = drop-marks_else J (held_cell j) (λ i a b e. omega arith)

  pub drop-marks_flag : (J j : ℕ) → 1 ≤ j → j ≤ J → flag_cell j < length numbers
      → get_or (drop_marks_of m J numbers) (flag_cell j) 0 ≡ cond (ltb m (get_or numbers (held_cell j) 0)) 0 (get_or numbers (flag_cell j) 0)
  unfolding drop_marks_of
  drop-marks_flag zero j a b h = absurd (omega arith)
  drop-marks_flag (suc J) j a b h = ⊎_elim last (λ l. earlier l (drop-marks_flag J j a (omega arith) h)) (eq-or-lt_of_le b)
    where
      earlier : suc j ≤ suc J → get_or (drop_marks_of m J numbers) (flag_cell j) 0 ≡ cond (ltb m (get_or numbers (held_cell j) 0)) 0 (get_or numbers (flag_cell j) 0)
          → get_or (drop_mark_of m (suc J) (drop_marks_of m J numbers)) (flag_cell j) 0 ≡ cond (ltb m (get_or numbers (held_cell j) 0)) 0 (get_or numbers (flag_cell j) 0)
      earlier l e = drop-mark_else m (suc J) (drop_marks_of m J numbers) (flag_cell j) (λ e. omega arith) ∙ e

      last : j ≡ suc J → get_or (drop_mark_of m (suc J) (drop_marks_of m J numbers)) (flag_cell j) 0 ≡ cond (ltb m (get_or numbers (held_cell j) 0)) 0 (get_or numbers (flag_cell j) 0)
      last e =
          rw e
          (drop-mark_here m (suc J) (drop_marks_of m J numbers) (rw (length-drop_marks J) (rw e at h))
          ∙ rw (drop-marks_held J (suc J), drop-marks_else J (flag_cell (suc J)) (λ i x y q. omega arith)))
