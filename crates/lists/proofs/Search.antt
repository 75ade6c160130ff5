-- Laws of a search for a bad element, from the front: a turn, each end, and what a search that found none says.
use mathlib.Core.Path.{◌≡◌, refl, sym, ap, ◌∙◌}
use mathlib.Core.Bool.{Bool, true, false, ◌||◌, ◌&&◌}
use mathlib.Core.List.{List, [], ◌∷◌, ◌++◌}
use Prim.Native.Nat.{ℕ, zero, suc, ◌+◌, ◌≤◌, ◌<◌}
use native.Mathlib.Numerals.{add-one}
use native.Mathlib.Omega.{arith}
use borrow.Author.Tests.{lt-ltb, le-ltb, leb-false}
use lib.ListN.{length, get_or, take}
use lib.Seq.{take-suc, take_all, length-take-le}
use lib.Dec.{leb}
use Rattle.lists.specs.Lists.{any_of, above}

-- ---- two conditions

pub neither : (a b : Bool) → (a || b) ≡ false → (a ≡ false) × (b ≡ false)
neither true b e = (e, cc)
neither false b e = (refl, e)

pub both : (a b : Bool) → (a && b) ≡ true → (a ≡ true) × (b ≡ true)
both true b e = (refl, e)
both false b e = (e, cc)

-- ---- a bad element

module _ {A : Type 0} (bad : A → Bool) where
  pub any_of_append : (xs ys : List A) → any_of bad (xs ++ ys) ≡ (any_of bad xs || any_of bad ys)
  unfolding any_of
  any_of_append [] ys = refl
  any_of_append (x ∷ xs) ys = by (bad x) (any_of_append xs ys)
    where
      by : (b : Bool) → any_of bad (xs ++ ys) ≡ (any_of bad xs || any_of bad ys) → (b || any_of bad (xs ++ ys)) ≡ (b || any_of bad xs || any_of bad ys)
      by true e = refl
      by false e = e

  -- a search that goes from the front: none so far, and one element more
  pub any_of_good : (xs : List A) (i : ℕ) (d : A) → i < length xs → any_of bad (take i xs) ≡ false → bad (get_or xs i d) ≡ false → any_of bad (take (i + 1) xs) ≡ false
  unfolding any_of
  any_of_good xs i d h e g = rw (add-one, take-suc xs i d h, any_of_append (take i xs) (get_or xs i d ∷ []), e, g)

  -- a bad element is found
  pub any_of_bad : (xs : List A) (i : ℕ) (d : A) → i < length xs → bad (get_or xs i d) ≡ true → any_of bad xs ≡ true
  unfolding any_of
  any_of_bad [] i d h e = absurd (omega arith)
  any_of_bad (x ∷ xs) zero d h e = rw e
  any_of_bad (x ∷ xs) (suc i) d h e = by (bad x) (any_of_bad xs i d (omega arith) e)
    where
      by : (b : Bool) → any_of bad xs ≡ true → (b || any_of bad xs) ≡ true
      by true r = refl
      by false r = r

  -- where none is bad, each is good
  pub none-bad : (xs : List A) (d : A) → any_of bad xs ≡ false → (i : ℕ) → i < length xs → bad (get_or xs i d) ≡ false
  unfolding any_of
  none-bad [] d e i h = absurd (omega arith)
  none-bad (x ∷ xs) d e i h = by (bad x) refl e i h (none-bad xs d)
    where
      by : (b : Bool) → bad x ≡ b → (b || any_of bad xs) ≡ false → (i : ℕ) → i < suc (length xs)
          → (any_of bad xs ≡ false → (j : ℕ) → j < length xs → bad (get_or xs j d) ≡ false) → bad (get_or (x ∷ xs) i d) ≡ false
      by true q e i h rest = cc
      by false q e zero h rest = q
      by false q e (suc i) h rest = rest e i (omega arith)

  -- the whole list is searched
  pub any_of_end : (xs : List A) (i : ℕ) → length xs ≤ i → any_of bad (take i xs) ≡ false → false ≡ any_of bad xs
  any_of_end xs i h none = sym (ap (any_of bad) (sym (take_all i xs h)) ∙ none)

  -- nothing is searched yet
  pub any_of_start : any_of bad [] ≡ false
  unfolding any_of
  any_of_start = refl

-- where no number of a list is n or above, each is below n
pub all-below : (n : ℕ) (xs : List ℕ) → any_of (leb n) xs ≡ false → (i : ℕ) → i < length xs → get_or xs i 0 < n
all-below n xs none i h = leb-false n (get_or xs i 0) (none-bad (leb n) xs 0 none i h)

-- a cell of the first n
pub cell_in : {A : Type 0} (cells : List A) (n i : ℕ) → n ≤ length cells → i < n → i < length (take n cells)
cell_in cells n i le h = rw length-take-le h

-- ---- a search for a figure above a limit

module _ (xs : List ℕ) (most i v : ℕ) (h : i < length xs) (e : v ≡ get_or xs i 0) where
  pub above-found : most < v → true ≡ any_of (above most) xs
  above-found l = sym (any_of_bad (above most) xs i 0 h (rw (← e) (lt-ltb most v l)))

  pub above-turn : v ≤ most → any_of (above most) (take i xs) ≡ false → any_of (above most) (take (i + 1) xs) ≡ false
  above-turn l none = any_of_good (above most) xs i 0 h none (rw (← e) (le-ltb most v l))
