-- A holder's rows from the contracts' bits.
use mathlib.Core.Path.{◌≡◌, refl, ap, sym, ◌∙◌}
use mathlib.Core.Logic.{⊎_elim}
use mathlib.Core.Bool.{Bool, true, false, cond}
use mathlib.Core.List.{List, [], ◌∷◌, ◌++◌, flat_map, append-nil, append_assoc}
use Prim.Native.Nat.{ℕ, zero, suc, ◌+◌, ◌*◌, ◌≤◌}
use native.Mathlib.Nat.{add_assoc, eq-or-lt_of_le}
use native.Mathlib.Numerals.{add-one}
use native.Mathlib.Omega.{arith}
use lib.Dec.{eqb}
use lib.ListN.{length, take, drop, length-append, take-append-drop}
use lib.Seq.{take_at, drop_at, length-take-le}
use Rattle.lists.proofs.Lists.{flat_map_append}
use Rattle.lists.proofs.Fill.{drop-later}
use Rattle.bits.specs.Bits.{digits}
use Rattle.bits.proofs.Numbers.{length_digits}
use Rattle.tariff.specs.declared.contracts.Contract.{Contract}
use Rattle.layouts.specs.declared.forms.Form.{Form}
use Rattle.layouts.specs.Forms.{end_width, record_bytes}
use Rattle.layouts.specs.BookFile.{contract_in}
use Rattle.layouts.specs.Inner.{contract_for}
use Rattle.layouts.proofs.BookFile.{contract-in_fits}
use Rattle.book_rules.specs.Inner.{contract_bytes, bits_bytes}
use mir.Val.{bool_byte}
use Rattle.view_rules.specs.Views.{numbered, held_at, held_to, view_row}
use Rattle.view_rules.proofs.Numbers.{bits-bytes}
use Rattle.view_rules.proofs.Rows.{row-bytes, length-rows, held_there, not_held}
use Rattle.view_holder.specs.Inner.{stored_row, rows_at, rows_to}

-- ---- one row

pub row-stored : (f : Form) (s : List ℕ) (i v : ℕ) → contract_in f s i ≡ contract_for (end_width f) v → view_row f (numbered i (contract_in f s i)) ≡ stored_row f i v
row-stored f s i v e =
    row-bytes f i (contract_in f s i) (contract-in_fits f s i) ∙ ap (λ (l : List ℕ). digits 8 2 i ++ l) (ap (contract_bytes f) e ∙ bits-bytes f v)

-- a block of cells behind another
two_blocks : (xs ys l t u : List ℕ) (at a b : ℕ) → length xs ≡ a → at + a ≤ length l → t ≡ take at l ++ xs ++ drop (at + a) l
    → u ≡ take (at + a) t ++ ys ++ drop (at + a + b) t → u ≡ take at l ++ (xs ++ ys) ++ drop (at + (a + b)) l
two_blocks xs ys l t u at a b size room first second =
    let front : length (take at l ++ xs) ≡ at + a = length-append (take at l) xs ∙ omega (arith, length-take-le at l (omega arith), size) in
    second
    ∙ rw (ap (take (at + a)) first ∙ take_at (take at l ++ xs) (drop (at + a) l) (at + a) front, ← add_assoc at a b)
    (ap (λ (r : List ℕ). take at l ++ xs ++ ys ++ r) (drop-later t l (at + a) (at + a + b) (omega arith)
    (ap (drop (at + a)) first ∙ drop_at (take at l ++ xs) (drop (at + a) l) (at + a) front))
    ∙ simp append_assoc)

-- a contract's number in two bytes, and its own bits in so many
pub number-and_bits : (m i v at : ℕ) (l t u : List ℕ) → at + 2 ≤ length l → t ≡ take at l ++ digits 8 2 i ++ drop (at + 2) l
    → u ≡ take (at + 2) t ++ digits 8 m v ++ drop (at + 2 + m) t → u ≡ take at l ++ (digits 8 2 i ++ digits 8 m v) ++ drop (at + (2 + m)) l
number-and_bits m i v at l t u = two_blocks (digits 8 2 i) (digits 8 m v) l t u at 2 m (length_digits 8 2 i)

pub nothing_put : (l rows : List ℕ) (at : ℕ) → rows ≡ [] → l ≡ take at l ++ rows ++ drop at l
nothing_put l rows at none =
    sym (take-append-drop at l) ∙ ap (λ (x : List ℕ). x ++ drop at l) (sym (append-nil (take at l))) ∙ ap (λ (r : List ℕ). take at l ++ r ++ drop at l) (sym none)

-- ---- contract i: its row where the holder has it, nothing where not

module _ (f : Form) (h : ℕ) (s : List ℕ) (i : ℕ) where
  pub rows-held : (v : ℕ) → contract_in f s i ≡ contract_for (end_width f) v → (contract_for (end_width f) v).holder ≡ h → rows_at f h s i ≡ stored_row f i v
  unfolding rows_at flat_map
  rows-held v e held = rw (held_there h i (contract_in f s i) (ap (λ (c : Contract). c.holder) e ∙ held)) (append-nil _ ∙ row-stored f s i v e)

  pub rows_none : ((contract_in f s i).holder ≡ h → ⊥) → rows_at f h s i ≡ []
  unfolding rows_at flat_map
  rows_none ne = rw (not_held h i (contract_in f s i) ne)

pub length-stored : (f : Form) (i v : ℕ) → length (stored_row f i v) ≡ 2 + record_bytes f
length-stored f i v = length-append (digits 8 2 i) (bits_bytes f v) ∙ omega (arith, length_digits 8 2 i, length_digits 8 (record_bytes f) v)

-- ---- the first m contracts

module _ (f : Form) (h : ℕ) (s : List ℕ) where
  pub rows-begin : rows_to f h s 0 ≡ []
  unfolding rows_to held_to flat_map
  rows-begin = refl

  pub rows_more : (m : ℕ) → rows_to f h s (m + 1) ≡ rows_to f h s m ++ rows_at f h s m
  unfolding rows_to rows_at held_to
  rows_more m = rw add-one (flat_map_append (view_row f) (held_to h (contract_in f s) m) (held_at h m (contract_in f s m)))

  -- later rows only add
  pub rows-rise : (m n : ℕ) → m ≤ n → length (rows_to f h s m) ≤ length (rows_to f h s n)
  rows-rise m zero b = let same : m ≡ 0 = omega arith in rw same (omega arith)
  rows-rise m (suc n) b =
      ⊎_elim
      (λ q. rw q (omega arith))
      (λ q. let more : length (rows_to f h s (n + 1)) ≡ length (rows_to f h s n) + length (rows_at f h s n) = ap length (rows_more n)
      ∙ length-append (rows_to f h s n) (rows_at f h s n) in
      omega (arith, rows-rise m n (omega arith), rw add-one at more))
      (eq-or-lt_of_le b)

  pub length-rows_to : (m : ℕ) → length (rows_to f h s m) ≡ (2 + record_bytes f) * length (held_to h (contract_in f s) m)
  unfolding rows_to
  length-rows_to m = length-rows f (held_to h (contract_in f s) m)

-- ---- how many

held_few : (h i : ℕ) (c : Contract) → length (held_at h i c) ≤ 1
unfolding held_at
held_few h i c = by (eqb c.holder h)
  where
    by : (b : Bool) → length (cond b (numbered i c ∷ []) []) ≤ 1
    by true = omega arith
    by false = omega arith

pub held_more : (h : ℕ) (g : ℕ → Contract) (m : ℕ) → length (held_to h g (m + 1)) ≡ length (held_to h g m) + length (held_at h m (g m))
unfolding held_to
held_more h g m = rw add-one (length-append (held_to h g m) (held_at h m (g m)))

pub held_begin : (h : ℕ) (g : ℕ → Contract) → length (held_to h g 0) ≡ 0
unfolding held_to
held_begin h g = refl

-- no more than there are
pub held_most : (h : ℕ) (g : ℕ → Contract) (m : ℕ) → length (held_to h g m) ≤ m
unfolding held_to
held_most h g zero = omega arith
held_most h g (suc m) = omega (arith, length-append (held_to h g m) (held_at h m (g m)), held_most h g m, held_few h m (g m))

-- how many numbered contracts one contract is, by a condition
module _ (h i : ℕ) (c : Contract) where
  pub held_long : bool_byte (eqb c.holder h) ≡ length (held_at h i c)
  unfolding held_at
  held_long = by (eqb c.holder h)
    where
      by : (b : Bool) → bool_byte b ≡ length (cond b (numbered i c ∷ []) [])
      by true = refl
      by false = refl

pub bool_most : (b : Bool) → bool_byte b ≤ 1
bool_most true = omega arith
bool_most false = omega arith
