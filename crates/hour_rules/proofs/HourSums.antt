-- The running totals, and the sums of an hour: contract by contract, nothing for the other period's.
use mathlib.Core.Path.{◌≡◌, refl, sym, ap, ap₂, ◌∙◌}
use mathlib.Core.Bool.{Bool, true, false, cond}
use mathlib.Core.List.{List, [], ◌∷◌, ◌++◌, map}
use Prim.Native.Nat.{ℕ, zero, suc, ◌+◌, ◌-◌, ◌^◌, ◌≤◌, ◌<◌}
use native.Mathlib.Numerals.{add-one}
use native.Mathlib.Omega.{arith}
use lib.Count.{ones}
use lib.ListN.{get_or, take}
use lib.IntN.{ℤ, pos, nat_abs, ◌+ℤ◌, ◌*ℤ◌, +ℤ_idr}
use mir.Syntax.{w64}
use mir.Val.{SFits, to_z, of_z}
use Rattle.integers.specs.Sums.{sum_to, sum_over_of}
use Rattle.integers.proofs.Linear.{⊖of, ⊖s}
use Rattle.integers.proofs.Sizes.{nat_abs_add}
use Rattle.integers.proofs.Machine.{back, op_fits, op_is}
use Rattle.integers.proofs.Division.{floor_unique}
use Rattle.lists.specs.Lists.{list_to}
use Rattle.lists.specs.Lent.{overwrite}
use Rattle.lists.proofs.Lists.{list_to-cong, map-list_to}
use Rattle.tariff.specs.declared.contracts.Contract.{Contract}
use Rattle.tariff.specs.declared.contracts.Period.{Period}
use Rattle.tariff.specs.Refusals.{passed}
use Rattle.tariff.specs.Units.{Factors, factors_of, max_constraints, per_cent}
use Rattle.tariff.specs.ContractRules.{same_period, of_period, InRange}
use Rattle.tariff.specs.Refusals.{first}
use Rattle.tariff.specs.Inner.{max_cents}
use Rattle.tariff.specs.Settlement.{amount, exact_total, cents, whole_cents, parts}
use Rattle.tariff.proofs.Periods.{of_period-same, of_period-other, sum_over-more}
use Rattle.tariff.proofs.Sizes.{amount-sized, cents-sized}
use Rattle.layouts.specs.BookFile.{contract_count_in, contract_at}
use Rattle.book_rules.specs.BookChecks.{book_checks}
use Rattle.book_rules.proofs.Accepted.{book-accepted}
use Rattle.hour_rules.specs.declared.Totals.{Totals}
use Rattle.hour_rules.specs.SettleHour.{cents_of, priced_of, cents_sum, hour_total}
use Rattle.hour_rules.specs.SettleHour.{settled as settled_answer}
use Rattle.grid_tables.specs.Inner.{Hour}
use Rattle.hour_rules.specs.Inner.{hour_amount, exact_of, Bounded, SettlesFirst, Settles}
use Rattle.hour_mcc.proofs.Products.{prices-in, front_at}
use Rattle.hour_rules.proofs.Pricing.{priced-few}

-- ---- a machine sum of two numbers that are kept in an i64

module _ (x y : ℤ) (h : nat_abs x + nat_abs y < 2 ^ 63) where
  pub add_fits : SFits w64 (to_z w64 (of_z w64 x) +ℤ to_z w64 (of_z w64 y))
  add_fits = op_fits ◌+ℤ◌ (back x (omega arith)) (back y (omega arith)) (omega (arith, nat_abs_add x y))

  pub add_is : to_z w64 (of_z w64 (to_z w64 (of_z w64 x) +ℤ to_z w64 (of_z w64 y))) ≡ x +ℤ y
  add_is = op_is ◌+ℤ◌ (back x (omega arith)) (back y (omega arith)) (omega (arith, nat_abs_add x y))

-- one more, or none, on top of a sum z
pub carry_fits : {v z : ℤ} → v ≡ z → (d : ℤ) → nat_abs z + 1 < 2 ^ 63 → nat_abs d ≤ 1 → SFits w64 (v +ℤ d)
carry_fits {v} {z} e d h one = op_fits ◌+ℤ◌ e refl (omega (arith, nat_abs_add z d))

-- ---- one amount more

split_more : (W w : ℤ) (P p : ℕ) (a : ℤ) → w *ℤ pos per_cent +ℤ pos p ≡ a → (W +ℤ w) *ℤ pos per_cent +ℤ pos (P + p) ≡ W *ℤ pos per_cent +ℤ pos P +ℤ a
split_more W w P p a = rw (⊖of W, ⊖of w, ⊖of a) (simp ⊖s (omega arith))

carry : (W : ℤ) (x : ℕ) → per_cent ≤ x → (W +ℤ pos 1) *ℤ pos per_cent +ℤ pos (x - per_cent) ≡ W *ℤ pos per_cent +ℤ pos x
carry W x h = rw (⊖of W) (simp ⊖s (omega arith))

-- the whole cents w and the parts p of an amount a, added to W and P
module _ (W w : ℤ) (P p : ℕ) (a : ℤ) (exact : w *ℤ pos per_cent +ℤ pos p ≡ a) where
  pub exact-more : (W +ℤ w) *ℤ pos per_cent +ℤ pos (P + p) ≡ W *ℤ pos per_cent +ℤ pos P +ℤ a
  exact-more = split_more W w P p a exact

  pub exact-carry : per_cent ≤ P + p → (W +ℤ w +ℤ pos 1) *ℤ pos per_cent +ℤ pos (P + p - per_cent) ≡ W *ℤ pos per_cent +ℤ pos P +ℤ a
  exact-carry h = carry (W +ℤ w) (P + p) h ∙ exact-more

-- ---- sums of the first m, one more

pub sum-start : (f : ℕ → ℤ) → pos 0 ≡ sum_to 0 f
unfolding sum_to
sum-start f = refl

pub sum_more : (m : ℕ) (f : ℕ → ℤ) {s x r : ℤ} → s ≡ sum_to m f → x ≡ f m → r ≡ s +ℤ x → r ≡ sum_to (m + 1) f
unfolding sum_to
sum_more m f a b e = e ∙ ap₂ ◌+ℤ◌ a b ∙ rw add-one

-- totals of fewer contracts are within the bounds of more
pub bounded-most : (m n : ℕ) (t : Totals) → m ≤ n → Bounded m t → Bounded n t
bounded-most m n t h b =
    record { parts-small = b.parts-small; sum-sized = omega (arith, b.sum-sized); whole-sized = omega (arith, b.whole-sized) }

-- ---- a period's sum, over all contracts

pub period-sum : (t : Period) (m : ℕ) (f : ℕ → Contract) (w : Contract → ℤ) (v : ℕ → ℤ) → ((i : ℕ) → i < m → v i ≡ cond (same_period (f i).period t) (w (f i)) (pos 0))
    → sum_over_of (of_period t (list_to m f)) w ≡ sum_to m v
unfolding list_to sum_to of_period sum_over_of
period-sum t zero f w v h = refl
period-sum t (suc m) f w v h = by (same_period (f m).period t) refl ∙ ap₂ ◌+ℤ◌ (period-sum t m f w v (λ i b. h i (omega arith))) (sym (h m (omega arith)))
  where
    by : (b : Bool) → same_period (f m).period t ≡ b → sum_over_of (of_period t (list_to m f ++ f m ∷ [])) w ≡ sum_over_of (of_period t (list_to m f)) w +ℤ cond (same_period (f m).period t) (w (f m)) (pos 0)
    by true e = rw (e, of_period-same t (list_to m f) (f m) e) (sum_over-more (of_period t (list_to m f)) (f m) w)
    by false e = rw (e, of_period-other t (list_to m f) (f m) e) (sym (+ℤ_idr (sum_over_of (of_period t (list_to m f)) w)))

cents-cond : (b : Bool) (x : ℤ) → cents (cond b x (pos 0)) ≡ cond b (cents x) (pos 0)
cents-cond true x = refl
cents-cond false x = refl

cond-sized : (b : Bool) (x : ℤ) (most : ℕ) → nat_abs x ≤ most → nat_abs (cond b x (pos 0)) ≤ most
cond-sized true x most h = h
cond-sized false x most h = omega arith

-- ---- an answer

-- of totals that are those of contracts, the figures are the contracts'
pub values-are : (f : Factors) (p : List ℕ) (t : Period) (cs : List Contract) (r : Totals) → r.parts < per_cent → r.sum ≡ cents_sum f p t cs → exact_of r ≡ hour_total f p t cs
    → r.sum ∷ r.whole ∷ pos r.parts ∷ [] ≡ cents_sum f p t cs ∷ whole_cents (hour_total f p t cs) ∷ pos (parts (hour_total f p t cs)) ∷ []
values-are f p t cs r small sum exact =
    let only = floor_unique r.whole r.parts per_cent small in
    rw (← exact, ← sum) (λ i. r.sum ∷ sym only.0 i ∷ pos (sym only.1 i) ∷ [])

-- an answer of the exact total's figures makes it
pub exact-of : (r : Totals) (s w : ℤ) (p : ℕ) (total : ℤ) → exact_of r ≡ total → settled_answer r.sum r.whole r.parts ≡ settled_answer s w p → w *ℤ pos per_cent +ℤ pos p ≡ total
exact-of r s w p total e q =
    let whole : r.whole ≡ w = cc in
    let part : r.parts ≡ p = cc in
    rw (← whole, ← part) e

-- ---- an hour's figures

module _ (n k : ℕ) (fs : List ℤ) (ps : List ℕ) (h : Hour n k fs ps) (t : Period) where
  cents-small : (c : Contract) → InRange n c → nat_abs (cents_of (factors_of n k fs) (take k ps) t c) ≤ max_cents
  unfolding cents_of
  cents-small c r =
      let sized = amount-sized (factors_of n k fs) (take k ps) h.good-factors.few h.good-factors.in_range (prices-in n k fs ps h) c r in
      cond-sized (same_period c.period t) _ max_cents (cents-sized (amount (factors_of n k fs) (take k ps) c) max_cents sized)

  module _ (m : ℕ) (f : ℕ → Contract) where
    cell_small : ((i : ℕ) → i < m → InRange n (f i)) → (entry exit : List ℤ) → exit ≡ overwrite (map (cents_of (factors_of n k fs) (take k ps) t) (list_to m f)) entry
        → (i : ℕ) → i < m → nat_abs (get_or exit i (pos 0)) ≤ max_cents
    cell_small ok entry exit e i b =
        rw (e, map-list_to m f (cents_of (factors_of n k fs) (take k ps) t), front_at m (λ i. cents_of (factors_of n k fs) (take k ps) t (f i)) _ (pos 0) i b) (cents-small (f i) (ok i b))

    set-small : (entry exit : List ℕ) → exit ≡ overwrite (map (priced_of (factors_of n k fs) (take k ps) t) (list_to m f)) entry → (i : ℕ) → i < m → ones (get_or exit i 0) ≤ max_constraints
    set-small entry exit e i b =
        rw (e, map-list_to m f (priced_of (factors_of n k fs) (take k ps) t), front_at m (λ i. priced_of (factors_of n k fs) (take k ps) t (f i)) _ 0 i b)
        (priced-few (factors_of n k fs) (take k ps) t (f i) h.good-factors.few)

    cents-hour : (i : ℕ) → cents (hour_amount (factors_of n k fs) (take k ps) t (f i)) ≡ cond (same_period (f i).period t) (cents (amount (factors_of n k fs) (take k ps) (f i))) (pos 0)
    unfolding hour_amount
    cents-hour i = cents-cond (same_period (f i).period t) (amount (factors_of n k fs) (take k ps) (f i))

    cells_are : list_to m (λ i. cents (hour_amount (factors_of n k fs) (take k ps) t (f i))) ≡ map (cents_of (factors_of n k fs) (take k ps) t) (list_to m f)
    unfolding cents_of
    cells_are = list_to-cong m _ _ (λ i b. cents-hour i) ∙ sym (map-list_to m f (cents_of (factors_of n k fs) (take k ps) t))

    sum_is : cents_sum (factors_of n k fs) (take k ps) t (list_to m f) ≡ sum_to m (λ i. cents (hour_amount (factors_of n k fs) (take k ps) t (f i)))
    unfolding cents_sum
    sum_is = period-sum t m f (λ c. cents (amount (factors_of n k fs) (take k ps) c)) _ (λ i b. cents-hour i)

    total-is : hour_total (factors_of n k fs) (take k ps) t (list_to m f) ≡ sum_to m (λ i. hour_amount (factors_of n k fs) (take k ps) t (f i))
    unfolding hour_total exact_total hour_amount
    total-is = period-sum t m f (amount (factors_of n k fs) (take k ps)) _ (λ i b. refl)

  -- what the first contracts of an accepted book settle to, all of them being the first, the book does
  pub settled : (s : List ℕ) → first (book_checks n s) ≡ passed → (m : ℕ) → m ≡ contract_count_in s → (entry exit : List ℤ) (sets handed : List ℕ) (r : Totals)
      → SettlesFirst (factors_of n k fs) (take k ps) t m (contract_at s) entry exit sets handed r → Settles n k t fs ps s entry exit sets handed r
  settled s passed m count entry exit sets handed r by =
      let each = (book-accepted n s passed).each in
      let b = rw count at by in
      let are = b.cells ∙ ap (λ (xs : List ℤ). overwrite xs entry) (cells_are (contract_count_in s) (contract_at s)) in
      let on = b.priced ∙ ap (λ (xs : List ℕ). overwrite xs sets) (sym (map-list_to (contract_count_in s) (contract_at s) (priced_of (factors_of n k fs) (take k ps) t))) in
      record {
        cells = are;
        priced = on;
        sum = b.sum ∙ sym (sum_is (contract_count_in s) (contract_at s));
        exact = b.exact ∙ sym (total-is (contract_count_in s) (contract_at s));
        bounded = b.bounded;
        cells-sized = cell_small (contract_count_in s) (contract_at s) each entry exit are;
        priced-sized = set-small (contract_count_in s) (contract_at s) sets handed on;
      }
