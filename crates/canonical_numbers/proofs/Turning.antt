-- The walk over cells, turn by turn: rows that are out stand at the front of the cells that were read.
use mathlib.Core.Path.{◌≡◌, refl, sym, ap, ◌∙◌}
use mathlib.Core.Bool.{Bool, true, false, cond}
use mathlib.Core.List.{List, [], ◌∷◌, ◌++◌, append_assoc}
use Prim.Native.Nat.{ℕ, ◌+◌, ◌≤◌, ◌<◌}
use native.Mathlib.Numerals.{add-one}
use native.Mathlib.Omega.{arith}
use lib.ListN.{length, get_or, take, drop, set, length-set, drop_of_length-le}
use lib.Seq.{take-suc-set, drop-cons, drop-set-lt}
use Rattle.std.specs.Prelude.{Some, None}
use Rattle.std.proofs.lemmas.Option.{cond_some, none-some}
use Rattle.lists.specs.Lists.{Each}
use Rattle.lists.proofs.Lists.{each_at}
use Rattle.lists.proofs.Fill.{drop-later}
use Rattle.canonical_rules.specs.Inner.{goes, out, pending, walk_from, walk, five_in_of, quantity_in, number_at, walk_numbers}
use Rattle.canonical_numbers.specs.declared.Step.{Step}
use Rattle.canonical_numbers.specs.Inner.{SizedQuantity, Steps}

abbrev pub numbers_from : ℕ → List ℕ → List ℕ
numbers_from = walk_from five_in_of quantity_in number_at

-- the walk begins with the first cell pending
walk_begins : (vs : List ℕ) → 0 < length vs → numbers_from (get_or vs 0 0) (drop 1 vs) ≡ walk_numbers vs
unfolding walk
walk_begins [] h = absurd (omega arith)
walk_begins (v ∷ vs) h = refl

none_out : (b : Bool) (v : ℕ) → cond b (Some v) None ≡ None → b ≡ false
none_out true v e = absurd (none-some v (sym e))
none_out false v e = refl

-- after i cells: rows are out, at the front of the cells, and a row is pending
pub record Walking (cells₀ cells : List ℕ) (row rows i : ℕ) : Type 0 where
  pub few : rows < i
  pub within : i ≤ length cells₀
  pub size : length cells ≡ length cells₀
  pub sized : SizedQuantity row
  pub rest : drop i cells ≡ drop i cells₀
  pub done : take rows cells ++ numbers_from row (drop i cells₀) ≡ walk_numbers cells₀

module _ (cells₀ : List ℕ) (all : Each SizedQuantity cells₀) where
  sized-at : (i : ℕ) → i < length cells₀ → SizedQuantity (get_or cells₀ i 0)
  sized-at i h = each_at SizedQuantity cells₀ i 0 all h

  pub walking_begins : 0 < length cells₀ → Walking cells₀ cells₀ (get_or cells₀ 0 0) 0 1
  walking_begins some = record { few = omega arith; within = omega arith; size = refl; sized = sized-at 0 some; rest = refl; done = walk_begins cells₀ some }

  module _ (cells : List ℕ) (row rows i : ℕ) (w : Walking cells₀ cells row rows i) where
    -- the cell read is as it was
    cell_read : i < length cells₀ → get_or cells i 0 ≡ get_or cells₀ i 0
    cell_read h =
        let a = drop-cons cells i 0 (omega (arith, w.size)) in
        let b = drop-cons cells₀ i 0 (omega arith) in
        ap (λ (l : List ℕ). get_or l 0 0) (sym a ∙ w.rest ∙ b)

    pub read_sized : i < length cells₀ → SizedQuantity (get_or cells i 0)
    read_sized h = rw (cell_read h) (sized-at i h)

    next-cell : i < length cells₀ → drop i cells₀ ≡ get_or cells₀ i 0 ∷ drop (i + 1) cells₀
    next-cell h = rw add-one (drop-cons cells₀ i 0 h)

    module _ (s : Step) (h : i < length cells₀) (step : Steps row (get_or cells i 0) s) where
      abbrev next : ℕ
      next = get_or cells i 0

      abbrev tail : List ℕ
      tail = numbers_from (pending five_in_of quantity_in number_at row next) (drop (i + 1) cells₀)

      walked : (b : Bool) → goes five_in_of quantity_in number_at row next ≡ b
          → numbers_from row (drop i cells₀) ≡ cond b (out five_in_of quantity_in number_at row next ∷ []) [] ++ tail
      unfolding walk_from
      walked b e = rw (next-cell h, ← cell_read h, ← e)

      -- a row goes out, into the next cell
      pub row_out : (v : ℕ) → s.out ≡ Some v → Walking cells₀ (set cells rows v) s.pending (rows + 1) (i + 1)
      row_out v is =
          let went : (goes five_in_of quantity_in number_at row next ≡ true) × (out five_in_of quantity_in number_at row next ≡ v) = cond_some _ _ v (sym step.out-is ∙ is) in
          record {
            few = omega (arith, w.few);
            within = omega arith;
            size = length-set cells rows v ∙ w.size;
            sized = step.sized;
            rest = drop-set-lt (i + 1) cells rows v (omega (arith, w.few)) ∙ drop-later cells cells₀ i (i + 1) (omega arith) w.rest;
            done = rw (step.pending-is, add-one rows, take-suc-set cells rows v (omega (arith, w.few, w.size)))
                (append_assoc (take rows cells) (v ∷ []) tail ∙ ap (λ (l : List ℕ). take rows cells ++ l) (sym (rw went.1 at (walked true went.0)))) ∙ w.done;
          }

      -- none does
      pub row_kept : s.out ≡ None → Walking cells₀ cells s.pending rows (i + 1)
      row_kept is =
          let stayed = none_out _ _ (sym step.out-is ∙ is) in
          record {
            few = omega (arith, w.few);
            within = omega arith;
            size = w.size;
            sized = step.sized;
            rest = drop-later cells cells₀ i (i + 1) (omega arith) w.rest;
            done = rw step.pending-is (ap (λ (l : List ℕ). take rows cells ++ l) (sym (walked false stayed))) ∙ w.done;
          }

    -- the row that is pending at the end goes out
    pub walk_ends : i ≡ length cells₀ → take (rows + 1) (set cells rows row) ≡ walk_numbers cells₀
    unfolding walk_from
    walk_ends h =
        let none : drop i cells₀ ≡ [] = drop_of_length-le cells₀ {i = i} (omega arith) in
        rw (add-one rows, take-suc-set cells rows row (omega (arith, w.few, w.size))) (rw none at w.done)
