-- Laws of factors in a table: their range, a search for one out of range, and a table that no check refuses.
use mathlib.Core.Path.{◌≡◌, refl, sym, ap, ◌∙◌}
use mathlib.Core.Bool.{Bool, true, false, ◌||◌}
use mathlib.Core.List.{List, [], ◌∷◌}
use Prim.Native.Nat.{ℕ, zero, suc, ◌+◌, ◌-◌, ◌*◌, ◌≤◌, ◌<◌}
use native.Mathlib.Nat.{mul-le-mul, mul-le-mul_right}
use native.Mathlib.Omega.{arith}
use borrow.Author.Tests.{ltb-true, ltb-false, lt-ltb, le-ltb}
use lib.IntN.{ℤ, pos, negsuc, nat_abs}
use lib.Signed.{lt_z}
use lib.ListN.{length, length-drop, get_or, take, drop, take-append-drop}
use lib.Seq.{get_or-take, get_or-drop, drop-drop, length-take-le}
use Rattle.std.specs.List.{list_any}
use Rattle.std.specs.Simd.{first_chunks}
use Rattle.lists.specs.Lists.{any_of}
use Rattle.lists.proofs.Search.{any_of_append, any_of_good, any_of_bad, none-bad, cell_in}
use Rattle.tariff.specs.Units.{max_factor, max_nodes, max_constraints, factors_of, factor}
use Rattle.tariff.specs.Checks.{factor_bad_of}
use Rattle.tariff.specs.Inner.{FactorsInRange}
use Rattle.grid_tables.specs.Inner.{GoodFactors, RowOf}

-- ---- places

pub count_fits : (n k : ℕ) → n ≤ max_nodes → k ≤ max_constraints → n * k ≤ max_nodes * max_constraints
count_fits n k h j = mul-le-mul h j

-- the factor of node j on constraint c is one of them, and so is its row
pub place-in : (n k j c : ℕ) → j < n → c < k → j * k + c < n * k
place-in n k j c h i = omega (arith, mul-le-mul_right k h)

pub row_in : (n k j : ℕ) → j < n → j * k + k ≤ n * k
row_in n k j h = omega (arith, mul-le-mul_right k h)

-- ---- one factor

pub below-range : (z : ℤ) → lt_z z (negsuc 99999) ≡ true → true ≡ factor_bad_of z
below-range (pos n) e = cc
below-range (negsuc n) e = sym (lt-ltb 100000 (suc n) (omega (arith, ltb-true 99999 n e)))

pub not_below : (z : ℤ) → lt_z z (negsuc 99999) ≡ false → lt_z (pos 100000) z ≡ factor_bad_of z
not_below (pos n) e = refl
not_below (negsuc n) e = sym (le-ltb 100000 (suc n) (omega (arith, ltb-false 99999 n e)))

-- a factor in range
pub good-small : (z : ℤ) → factor_bad_of z ≡ false → nat_abs z ≤ max_factor
good-small z e = ltb-false max_factor (nat_abs z) e

-- ---- a search, from the front

-- as far, however it is counted
pub bad_so_far : (fs : List ℤ) (i j : ℕ) → i ≡ j → any_of factor_bad_of (take i fs) ≡ false → any_of factor_bad_of (take j fs) ≡ false
bad_so_far fs i j e none = ap (λ (x : ℕ). any_of factor_bad_of (take x fs)) (sym e) ∙ none

module _ (fs : List ℤ) (i : ℕ) (d : ℤ) (r : Bool) (h : i < length fs) (e : r ≡ factor_bad_of (get_or fs i d)) where
  pub bad_found : r ≡ true → true ≡ any_of factor_bad_of fs
  bad_found t = sym (any_of_bad factor_bad_of fs i d h (sym e ∙ t))

  pub bad_turn : r ≡ false → any_of factor_bad_of (take i fs) ≡ false → any_of factor_bad_of (take (i + 1) fs) ≡ false
  bad_turn t none = any_of_good factor_bad_of fs i d h none (sym e ∙ t)

-- ---- four at once

or_assoc : (a b c : Bool) → (a || b || c) ≡ (a || (b || c))
or_assoc true b c = refl
or_assoc false b c = refl

-- the first k fours, and what stands behind them
pub in_fours : (k m : ℕ) (fs : List ℤ) → m ≡ k * 4
    → (list_any (any_of factor_bad_of) (first_chunks 4 k fs) || any_of factor_bad_of (drop m fs)) ≡ any_of factor_bad_of fs
in_fours zero m fs e = let none : m ≡ 0 = omega (arith, e) in rw none refl
in_fours (suc k) m fs e =
    let behind : drop m fs ≡ drop (m - 4) (drop 4 fs) = ap (λ (x : ℕ). drop x fs) {x = m} {y = 4 + (m - 4)} (omega (arith, e)) ∙ sym (drop-drop (m - 4) 4 fs) in
    or_assoc (any_of factor_bad_of (take 4 fs)) _ _
    ∙ ap (λ b. any_of factor_bad_of (take 4 fs) || b) (rw behind (in_fours k (m - 4) (drop 4 fs) (omega (arith, e))))
    ∙ sym (any_of_append factor_bad_of (take 4 fs) (drop 4 fs))
    ∙ ap (any_of factor_bad_of) (take-append-drop 4 fs)

last : (b : Bool) → (b || false) ≡ b
last true = refl
last false = refl

pub four_any : (fs : List ℤ) → length fs ≡ 4
    → (factor_bad_of (get_or fs 0 (pos 0)) || factor_bad_of (get_or fs 1 (pos 0)) || factor_bad_of (get_or fs 2 (pos 0))
    || factor_bad_of (get_or fs 3 (pos 0))) ≡ any_of factor_bad_of fs
unfolding any_of
four_any (a ∷ b ∷ c ∷ d ∷ []) e =
    or_assoc (factor_bad_of a || factor_bad_of b) (factor_bad_of c) (factor_bad_of d)
    ∙ or_assoc (factor_bad_of a) (factor_bad_of b) (factor_bad_of c || factor_bad_of d)
    ∙ ap (λ x. factor_bad_of a || (factor_bad_of b || (factor_bad_of c || x))) (sym (last (factor_bad_of d)))
four_any [] e = absurd (omega (arith, e))
four_any (a ∷ []) e = absurd (omega (arith, e))
four_any (a ∷ b ∷ []) e = absurd (omega (arith, e))
four_any (a ∷ b ∷ c ∷ []) e = absurd (omega (arith, e))
four_any (a ∷ b ∷ c ∷ d ∷ x ∷ fs) e = absurd (omega (arith, e))

-- ---- a table that no check refuses

pub factors-in_range : (n k : ℕ) (fs : List ℤ) → n * k ≤ length fs → any_of factor_bad_of (take (n * k) fs) ≡ false → FactorsInRange (factors_of n k fs)
factors-in_range n k fs long none =
    record {
      factor-sized = λ i j hi hj.
          good-small (factor (factors_of n k fs) i j)
          (none-bad factor_bad_of (take (n * k) fs) (pos 0) none (i * k + j) (cell_in fs (n * k) (i * k + j) long (place-in n k i j hi hj)));
    }

module _ (n k : ℕ) (fs : List ℤ) (g : GoodFactors n k fs) (i j : ℕ) (hi : i < n) (hj : j < k) where
  -- the cell of node i and constraint j is its factor, in range
  pub factor-cell : get_or fs (i * k + j) (pos 0) ≡ factor (factors_of n k fs) i j
  factor-cell = sym (get_or-take (n * k) fs (i * k + j) (pos 0) (place-in n k i j hi hj))

  pub factor-cell_sized : nat_abs (get_or fs (i * k + j) (pos 0)) ≤ max_factor
  factor-cell_sized = rw factor-cell (g.in_range.factor-sized i j hi hj)

-- the row of node i
pub row-of : (n k : ℕ) (fs : List ℤ) → GoodFactors n k fs → (i : ℕ) → i < n → RowOf n k fs i (take k (drop (i * k) fs))
row-of n k fs g i h =
    let at : (j : ℕ) → j < k → get_or (take k (drop (i * k) fs)) j (pos 0) ≡ get_or fs (i * k + j) (pos 0) = λ j l. get_or-take k (drop (i * k) fs) j (pos 0) l
    ∙ get_or-drop (i * k) fs j (pos 0) in
    record {
      long = length-take-le k (drop (i * k) fs) (rw length-drop (omega (arith, g.long, row_in n k i h)));
      cell = λ j l. at j l ∙ factor-cell n k fs g i j h l;
      sized = λ j l. rw (at j l) (factor-cell_sized n k fs g i j h l);
    }
