-- Which constraints priced a contract: rows of factors and where two of them differ, and the set of both.
use mathlib.Core.Path.{◌≡◌, sym, ap, ap₂, ◌∙◌}
use mathlib.Core.Bool.{not, ◌&&◌}
use mathlib.Core.List.{List}
use Prim.Native.Nat.{ℕ, ◌+◌, ◌*◌, ◌^◌, ◌≤◌, ◌<◌}
use native.Mathlib.Omega.{arith}
use lib.Bits.{bit_and}
use lib.Dec.{eqb, ltb}
use lib.ListN.{get_or, take}
use lib.Seq.{get_or-take}
use lib.IntN.{ℤ, pos, nat_abs, ◌-ℤ◌}
use mir.Syntax.{w64}
use mir.Val.{of_z, bool_byte}
use Rattle.lists.specs.Sets.{set_of}
use Rattle.lists.proofs.Sets.{set-cong, set-parts, set-one, set_both}
use Rattle.integers.specs.Sums.{nonzero}
use Rattle.integers.proofs.Machine.{differ_is}
use Rattle.tariff.specs.declared.contracts.Contract.{Contract}
use Rattle.tariff.specs.Units.{factors_of, max_factor}
use Rattle.tariff.specs.ContractRules.{InRange}
use Rattle.tariff.specs.Settlement.{priced_at, priced_set_of}
use Rattle.tariff.proofs.Priced.{priced-both}
use Rattle.grid_tables.specs.Inner.{GoodFactors, Hour}
use Rattle.grid_tables.proofs.Factors.{row_in, factor-cell, factor-cell_sized}
use Rattle.hour_priced.specs.Inner.{FactorRow, differ_at, posted_in}

-- ---- rows

module _ (fs : List ℤ) (a n : ℕ) (row : FactorRow fs a n) where
  -- a part of a row
  pub row-part : (i m : ℕ) → i + m ≤ n → FactorRow fs (a + i) m
  row-part i m h =
      record {
        long = omega (arith, row.long);
        sized = λ j hj. rw (ap (λ (k : ℕ). get_or fs k (pos 0)) {x = a + i + j} {y = a + (i + j)} (omega arith)) (row.sized (i + j) (omega arith));
      }

  pub row-front : (m : ℕ) → m ≤ n → FactorRow fs a m
  row-front m h = record { long = omega (arith, row.long); sized = λ j hj. row.sized j (omega arith) }

-- a node's factors
pub row_of : (n k : ℕ) (fs : List ℤ) → GoodFactors n k fs → (node : ℕ) → node < n → FactorRow fs (node * k) k
row_of n k fs g node h = record { long = omega (arith, row_in n k node h, g.long); sized = λ j hj. factor-cell_sized n k fs g node j h hj }

-- ---- where two rows differ

module _ (fs : List ℤ) (a b : ℕ) where
  -- from i on
  pub differ_from : (i n : ℕ) → set_of n (differ_at fs (a + i) (b + i)) ≡ set_of n (λ j. differ_at fs a b (i + j))
  differ_from i n =
      set-cong n _ _ (λ j h. ap₂ (λ (x y : ℕ). nonzero (get_or fs x (pos 0) -ℤ get_or fs y (pos 0))) {x = a + i + j} {y = a + (i + j)} {u = b + i + j} {v = b + (i + j)} (omega arith) (omega arith))

  -- m behind n
  pub differ_parts : (n m s x : ℕ) → s ≡ set_of m (differ_at fs (a + n) (b + n)) → x ≡ set_of n (differ_at fs a b) → s * 2 ^ n + x ≡ set_of (n + m) (differ_at fs a b)
  differ_parts n m s x e d = ap₂ (λ (u v : ℕ). u * 2 ^ n + v) (e ∙ differ_from n m) d ∙ sym (set-parts n m (differ_at fs a b))

  -- one bit, as the machine finds it
  pub one_differs : FactorRow fs a 1 → FactorRow fs b 1 → bool_byte (not (eqb (of_z w64 (get_or fs a (pos 0))) (of_z w64 (get_or fs b (pos 0))))) ≡ set_of 1 (differ_at fs a b)
  one_differs ra rb =
      let small : (x : ℤ) → nat_abs x ≤ max_factor → nat_abs x < 2 ^ 63 = λ x h. omega arith in
      let at : (i : ℕ) → get_or fs (i + 0) (pos 0) ≡ get_or fs i (pos 0) = λ i. ap (λ (k : ℕ). get_or fs k (pos 0)) {x = i + 0} {y = i} (omega arith) in
      let a_small = small (get_or fs a (pos 0)) (rw (at a) at (ra.sized 0 (omega arith))) in
      let b-small = small (get_or fs b (pos 0)) (rw (at b) at (rb.sized 0 (omega arith))) in
      set-one _ (differ_at fs a b) 0 (differ_is (get_or fs a (pos 0)) (get_or fs b (pos 0)) a_small b-small ∙ sym (ap₂ (λ (x y : ℤ). nonzero (x -ℤ y)) (at a) (at b)))
      ∙ set-cong 1 (λ j. differ_at fs a b (0 + j)) (differ_at fs a b) (λ j h. ap (differ_at fs a b) (omega arith))

-- ---- both

module _ (n k : ℕ) (fs : List ℤ) (ps : List ℕ) (h : Hour n k fs ps) (c : Contract) (r : InRange n c) where
  pub priced-is : (s t u : ℕ) → s ≡ set_of k (differ_at fs (c.source * k) (c.sink * k)) → t ≡ posted_in k ps → u ≡ bit_and s t → u ≡ priced_set_of (factors_of n k fs) (take k ps) c
  unfolding priced_set_of
  priced-is s t u d p e =
      let one : (j : ℕ) → j < k → (differ_at fs (c.source * k) (c.sink * k) j && ltb 0 (get_or ps j 0)) ≡ priced_at (factors_of n k fs) (take k ps) c j = λ j hj.
      ap₂ ◌&&◌
      (ap₂ (λ (x y : ℤ). nonzero (x -ℤ y)) (factor-cell n k fs h.good-factors c.source j r.source-below hj) (factor-cell n k fs h.good-factors c.sink j r.sink-below hj))
      (ap (ltb 0) (sym (get_or-take k ps j 0 hj))) ∙ sym (priced-both (factors_of n k fs) (take k ps) c j)
      in
      e ∙ ap₂ bit_and d p ∙ set_both k (differ_at fs (c.source * k) (c.sink * k)) (λ j. ltb 0 (get_or ps j 0)) ∙ set-cong k _ _ one
