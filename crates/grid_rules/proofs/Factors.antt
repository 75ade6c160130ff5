-- Laws of factors: their range by their bits, those of a table, and those of a file.
use mathlib.Core.Path.{◌≡◌, refl, sym, ap, ◌∙◌}
use mathlib.Core.Bool.{Bool, true, false}
use mathlib.Core.List.{List}
use Prim.Native.Nat.{ℕ, zero, suc, ◌+◌, ◌-◌, ◌*◌, ◌/◌, ◌%◌, ◌^◌, ◌≤◌, ◌<◌}
use native.Mathlib.Nat.{mod-lt, div-add-mod', div-lt_iff_lt-mul}
use native.Mathlib.Omega.{arith}
use borrow.Author.Tests.{ltb-true, ltb-false, lt-ltb, le-ltb}
use lib.Dec.{ltb}
use lib.IntN.{ℤ, pos, negsuc, nat_abs}
use lib.Signed.{mag}
use lib.ListN.{length, get_or, take, length-map, get_or-map}
use lib.Seq.{get_or-take, length-take-le}
use Rattle.bits.specs.Bits.{field, fields}
use Rattle.bits.specs.Signed.{of_int, to_int}
use Rattle.bits.proofs.Fields.{field-of_run, length_fields}
use Rattle.bits.proofs.SignedLaws.{to_low, to_high}
use Rattle.tariff.specs.Units.{max_factor}
use Rattle.tariff.specs.Checks.{factor_bad_of}
use Rattle.grid_tables.specs.Inner.{GoodFactors}
use Rattle.grid_tables.proofs.Factors.{factor-cell_sized}
use Rattle.layouts.specs.GridFile.{limit_width, factor_width, factors_from}
use Rattle.grid_rules.specs.Inner.{factors_at, coded}

-- ---- by its bits, taken as a number

-- a test that holds where another does
same_test : (a b c d : ℕ) → (a < b → c < d) → (b ≤ a → d ≤ c) → ltb a b ≡ ltb c d
same_test a b c d to fro = by (ltb a b) refl
  where
    by : (t : Bool) → ltb a b ≡ t → ltb a b ≡ ltb c d
    by true e = e ∙ sym (lt-ltb c d (to (ltb-true a b e)))
    by false e = e ∙ sym (le-ltb c d (fro (ltb-false a b e)))

module _ (v : ℕ) where
  pub bits-low : v ≤ max_factor → false ≡ factor_bad_of (to_int factor_width v)
  bits-low h = rw (to_low factor_width {v = v} (omega arith)) (sym (le-ltb max_factor v h))

  pub bits-high : v < 2 ^ factor_width → max_factor < v → ltb v (2 ^ factor_width - max_factor) ≡ factor_bad_of (to_int factor_width v)
  bits-high fit h = by (ltb v (2 ^ (factor_width - 1))) refl
    where
      by : (t : Bool) → ltb v (2 ^ (factor_width - 1)) ≡ t → ltb v (2 ^ factor_width - max_factor) ≡ factor_bad_of (to_int factor_width v)
      by true e =
          let l : v < 2 ^ (factor_width - 1) = ltb-true v (2 ^ (factor_width - 1)) e in
          rw (to_low factor_width {v = v} l) (same_test v (2 ^ factor_width - max_factor) max_factor v (λ a. h) (λ a. omega arith))
      by false e =
          let l : 2 ^ (factor_width - 1) ≤ v = ltb-false v (2 ^ (factor_width - 1)) e in
          rw (to_high factor_width {v = v} l)
          (same_test v (2 ^ factor_width - max_factor) max_factor (suc (2 ^ factor_width - suc v)) (λ a. omega arith) (λ a. omega arith))

pub small-mag : (z : ℤ) → nat_abs z ≤ max_factor → mag z < 2 ^ (factor_width - 1)
small-mag (pos n) h = omega arith
small-mag (negsuc n) h = omega arith

-- ---- of a table

-- each cell in turn is the factor of a node on a constraint
pub cell_small : (n k : ℕ) (fs : List ℤ) → GoodFactors n k fs → (i : ℕ) → i < n * k → nat_abs (get_or fs i (pos 0)) ≤ max_factor
cell_small n zero fs g i h = absurd (omega arith)
cell_small n (suc k) fs g i h =
    rw (div-add-mod' i (suc k)) at (factor-cell_sized n (suc k) fs g (i / suc k) (i % suc k) ((div-lt_iff_lt-mul (omega arith)).1 h) (mod-lt i (omega arith)))

module _ (fs : List ℤ) (n : ℕ) (le : n ≤ length fs) where
  pub length-coded : length (coded n fs) ≡ n
  length-coded = length-map (take n fs) (of_int factor_width) ∙ length-take-le n fs le

  pub coded-at : (i : ℕ) → i < n → get_or (coded n fs) i 0 ≡ of_int factor_width (get_or fs i (pos 0))
  coded-at i h = get_or-map (of_int factor_width) (take n fs) i (pos 0) ∙ ap (of_int factor_width) (get_or-take n fs i (pos 0) h)

-- ---- of a file

module _ (s : List ℕ) (o n : ℕ) where
  pub length_run : length (factors_at s o n) ≡ n
  length_run = length-map (fields s o factor_width n) (to_int factor_width) ∙ length_fields s o factor_width n

  pub factor-at : (i at v : ℕ) → i < n → o + factor_width * n ≤ 8 * length s → at ≡ o + factor_width * i → v ≡ field s at factor_width
      → to_int factor_width v ≡ get_or (factors_at s o n) i (to_int factor_width 0)
  factor-at i at v h le a e =
      ap (to_int factor_width) (e ∙ ap (λ (x : ℕ). field s x factor_width) a ∙ sym (field-of_run s o factor_width n i h le))
      ∙ sym (get_or-map (to_int factor_width) (fields s o factor_width n) i 0)

-- behind the limits
pub factor-from : (s : List ℕ) (o n k i at v : ℕ) → i < n * k → o + limit_width * k + factor_width * (n * k) ≤ 8 * length s
    → at ≡ o + limit_width * k + factor_width * i → v ≡ field s at factor_width
    → to_int factor_width v ≡ get_or (factors_from s o n k) i (to_int factor_width 0)
unfolding factors_from
factor-from s o n k = factor-at s (o + limit_width * k) (n * k)
