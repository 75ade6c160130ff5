-- The MCC of a node, product by product; the MCCs in a table.
use mathlib.Core.Path.{◌≡◌, refl, sym, ap, ap₂, subst, ◌∙◌}
use mathlib.Core.Bool.{Bool, true, false}
use mathlib.Core.List.{List, ◌++◌}
use Prim.Native.Nat.{ℕ, ◌+◌, ◌*◌, ◌≤◌, ◌<◌}
use native.Mathlib.Nat.{lt_irrefl}
use native.Mathlib.Omega.{arith}
use borrow.Author.Tests.{ltb-true, ltb-false}
use lib.Dec.{ltb}
use lib.ListN.{length, get_or, set, take, get_or-append}
use lib.Seq.{get_or-take, get_or-set_same, get_or-set_other}
use lib.IntN.{ℤ, pos, neg_ℤ, nat_abs, ◌+ℤ◌, ◌*ℤ◌}
use mir.Syntax.{w64}
use mir.Val.{to_z, of_z}
use Rattle.integers.proofs.Sizes.{nat_abs_times}
use Rattle.integers.proofs.Machine.{back}
use Rattle.lists.specs.Lists.{list_to}
use Rattle.lists.proofs.Lists.{length-list_to, get_d_list_to}
use Rattle.tariff.specs.declared.units.Mcc.{Mcc}
use Rattle.tariff.specs.Units.{factors_of, factor, price, max_factor, max_price}
use Rattle.tariff.specs.Inner.{PricesInRange, max_mcc}
use Rattle.tariff.specs.Settlement.{congestion, mcc}
use Rattle.tariff.proofs.Theorems.{sum-takes_the_next, mcc-is_one_negation}
use Rattle.tariff.proofs.Sizes.{congestion-sized, mcc-sized}
use Rattle.grid_tables.proofs.Cells.{cut-sized}
use Rattle.grid_tables.specs.declared.table.HourTable.{HourTable}
use Rattle.grid_tables.specs.Hours.{factors_by, prices_by}
use Rattle.grid_tables.specs.Inner.{Hour, RowOf}
use Rattle.hour_mcc.specs.Inner.{mcc_in, MccAt}

-- ---- an hour's tables

module _ (n k : ℕ) (fs : List ℤ) (ps : List ℕ) (h : Hour n k fs ps) where
  pub prices-in : PricesInRange k (take k ps)
  prices-in = record { price-sized = cut-sized max_price k ps h.good-prices }

  pub node_sized : (i : ℕ) → i < n → nat_abs (mcc (factors_of n k fs) (take k ps) i) ≤ max_mcc
  node_sized = mcc-sized (factors_of n k fs) (take k ps) h.good-factors.few h.good-factors.in_range prices-in

module _ (t : HourTable) where
  abbrev n : ℕ
  n = t.factors.nodes

  abbrev k : ℕ
  k = t.factors.constraints

  abbrev fs : List ℤ
  fs = t.factors.cells.now

  abbrev ps : List ℕ
  ps = t.prices.now

  pub mcc_sized : (i : ℕ) → i < n → nat_abs (mcc_in t i) ≤ max_mcc
  mcc_sized = node_sized n k fs ps t.good

  module _ (node : ℕ) (hn : node < n) where
    -- the sum of the first products, not yet negated
    abbrev sum_so_far : ℕ → ℤ
    sum_so_far = congestion (factors_by t) (prices_by t) node

    sum-sized : (s : ℤ) (j : ℕ) → j ≤ k → s ≡ sum_so_far j → nat_abs s ≤ max_factor * max_price * j
    sum-sized s j hj e = rw e (congestion-sized (factors_by t) (prices_by t) t.good.good-factors.few t.good.good-factors.in_range (prices-in n k fs ps t.good) node j hn hj)

    module _ (row : List ℤ) (of : RowOf n k fs node row) (j : ℕ) (hj : j < k) where
      -- the factor on constraint j, as it is read from its cell
      abbrev factor_read : ℤ
      factor_read = to_z w64 (of_z w64 (get_or row j (pos 0)))

      factor-back : factor_read ≡ get_or row j (pos 0)
      factor-back = back (get_or row j (pos 0)) (omega (arith, of.sized j hj))

      pub factor-small : nat_abs factor_read ≤ max_factor
      factor-small = rw factor-back (of.sized j hj)

      -- a product x by any price fits beside the sum s before it
      module _ (s : ℤ) (so_far : s ≡ sum_so_far j) (x : ℤ) where
        pub sum_fits : (i : ℕ) → x ≡ factor_read *ℤ pos (get_or ps i 0) → i < k → nat_abs s + nat_abs x ≤ max_mcc
        sum_fits i e hi =
            let small : nat_abs x ≤ max_factor * max_price = rw e (nat_abs_times factor_read (pos (get_or ps i 0)) factor-small (t.good.good-prices.sized i hi)) in
            omega (arith, sum-sized s j (omega arith) so_far, small, t.good.good-factors.few)

        -- and, by the price of constraint j, makes it the sum of one more
        product_is : x ≡ factor_read *ℤ pos (get_or ps j 0) → x ≡ factor (factors_by t) node j *ℤ pos (price (prices_by t) j)
        product_is e = e ∙ ap₂ (λ (f : ℤ) (p : ℕ). f *ℤ pos p) (factor-back ∙ of.cell j hj) (sym (get_or-take k ps j 0 hj))

        pub sum_more : x ≡ factor_read *ℤ pos (get_or ps j 0) → (r : ℤ) → r ≡ s +ℤ x → (r ≡ sum_so_far (j + 1)) × (nat_abs r ≤ max_factor * max_price * (j + 1))
        sum_more e r q =
            let is : r ≡ sum_so_far (j + 1) = q ∙ ap₂ ◌+ℤ◌ so_far (product_is e) ∙ sym (sum-takes_the_next (factors_by t) (prices_by t) node j) in
            (is, sum-sized r (j + 1) (omega arith) is)

    -- one negation at the end
    pub mcc-end : (s r : ℤ) (j : ℕ) → j ≡ k → s ≡ sum_so_far j → r ≡ neg_ℤ s → (r ≡ mcc_in t node) × (nat_abs r ≤ max_mcc)
    mcc-end s r j hj e a =
        let same : r ≡ mcc_in t node = a ∙ ap neg_ℤ (e ∙ ap sum_so_far hj) ∙ sym (mcc-is_one_negation (factors_by t) (prices_by t) node) in
        (same, rw same (mcc_sized node hn))

-- ---- the MCCs of an hour's nodes in a table

pub front_at : {A : Type 0} (n : ℕ) (f : ℕ → A) (rest : List A) (d : A) (i : ℕ) → i < n → get_or (list_to n f ++ rest) i d ≡ f i
front_at n f rest d i h = get_or-append (list_to n f) rest d i (rw (length-list_to n f) h) ∙ get_d_list_to n f i d h

-- one more is stored
pub mcc-stored : (t : HourTable) (mccs : List Mcc) (j : ℕ) (x d : Mcc) → j < length mccs → MccAt t j x
    → ((i : ℕ) → i < j → MccAt t i (get_or mccs i d)) → (i : ℕ) → i < j + 1 → MccAt t i (get_or (set mccs j x) i d)
mcc-stored t mccs j x d long new old i h = by (ltb i j) refl
  where
    by : (b : Bool) → ltb i j ≡ b → MccAt t i (get_or (set mccs j x) i d)
    by true e = let b = ltb-true i j e in rw (get_or-set_other mccs j i x d (λ q. lt_irrefl i (subst (λ (m : ℕ). i < m) (sym q) b))) (old i b)
    by false e = let q : i ≡ j = omega (arith, ltb-false i j e) in rw q (rw (get_or-set_same mccs j x d long) new)
