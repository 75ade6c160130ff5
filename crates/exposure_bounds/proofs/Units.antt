-- Costs at one cent, set by set: they are the sets' shortfalls, but for the highest price, so the largest of them is the set that costs the most.
use mathlib.Core.Path.{◌≡◌, refl, sym, ap, ap₂, ◌∙◌}
use mathlib.Core.Bool.{Bool, true, false, cond, ◌&&◌}
use mathlib.Core.List.{List}
use Prim.Native.Nat.{ℕ, zero, suc, ◌+◌, ◌/◌, ◌%◌, ◌^◌, ◌≤◌, ◌<◌}
use native.Mathlib.Nat.{add-zero}
use native.Mathlib.Numerals.{add-one}
use native.Mathlib.Omega.{arith}
use lib.Dec.{eqb}
use lib.ListN.{length, get_or, take}
use lib.Seq.{get_or-take, length-take-le}
use lib.Pow.{pow_pos}
use lib.IntN.{ℤ, pos, ◌+ℤ◌, ◌-ℤ◌, ◌*ℤ◌, +ℤ_idr, zero-*ℤ}
use lib.Signed.{◌≤ℤ◌, lt_z, lt_z_yes, lt_z_no}
use Rattle.integers.specs.Sums.{max0, sum_to, sum_over_of}
use Rattle.integers.proofs.Linear.{⊖of, ⊖s, ≤ℤ-trans, ≤ℤ-of_≡, *pos_mono}
use Rattle.integers.proofs.Sums.{sum_over-cong}
use Rattle.lists.specs.Sets.{count_of}
use Rattle.tariff.specs.declared.contracts.Contract.{Contract}
use Rattle.tariff.specs.declared.processes.Process.{Process}
use Rattle.tariff.specs.Units.{Grid, max_price}
use Rattle.tariff.specs.ContractRules.{counted}
use Rattle.tariff.specs.Feasibility.{released, overloaded, overload_count}
use Rattle.exposure_sets.specs.Inner.{in_bit, bit_sum, raw_of, unit_cost, UnitCosts}
use Rattle.exposure_rules.specs.Exposure.{largest_of, in_set, set_prices}
use Rattle.exposure_rules.proofs.Plain.{max0-same, largest_inside, largest_most, largest_upto}
use Rattle.exposure_rules.proofs.Bounds.{by_bool}
use Rattle.exposure_rules.proofs.Corners.{units_cost, less_times, cancel}
use Rattle.exposure_rules.proofs.Sets.{set-none}
use Rattle.exposure_figures.specs.Inner.{Exactly}
use Rattle.exposure_figures.proofs.Figures.{is_true, is_false, exactly_of}
use Rattle.exposure_prices.specs.declared.Best.{Best}
use Rattle.test_excesses.specs.Inner.{cell_at}
use Rattle.exposure_prices.specs.Inner.{Figures, above_in, Listed}
use Rattle.exposure_bounds.specs.Inner.{AreExcesses, BestSet}
use Rattle.exposure_bounds.proofs.Meaning.{cell_over, count-cong, largest_cong, cost_of}

-- ---- over the listed constraints, and over all

module _ (b : ℕ → Bool) (over : List ℕ) (x : ℕ → ℤ) (m : ℕ) where
  abbrev part : ℕ → ℤ
  part j = cond (b j && eqb (m / 2 ^ count_of j b % 2) 1) (x j) (pos 0)

  abbrev listed : ℕ → ℤ
  listed s = x (get_or over s 0)

  compact : (k : ℕ) → ((j : ℕ) → j < k → b j ≡ true → get_or over (count_of j b) 0 ≡ j) → sum_to k part ≡ bit_sum listed m (count_of k b)
  unfolding sum_to count_of bit_sum
  compact zero h = refl
  compact (suc k) h = by (b k) refl (compact k (λ j l. h j (omega arith)))
    where
      by : (c : Bool) → b k ≡ c → sum_to k part ≡ bit_sum listed m (count_of k b)
          → sum_to k part +ℤ cond (c && eqb (m / 2 ^ count_of k b % 2) 1) (x k) (pos 0) ≡ bit_sum listed m (count_of k b + cond c 1 0)
      by true e r = rw (add-one (count_of k b)) (ap₂ ◌+ℤ◌ r (ap (λ (j : ℕ). cond (in_bit m (count_of k b)) (x j) (pos 0)) (sym (h k (omega arith) e))))
      by false e r = rw (add-zero (count_of k b)) (+ℤ_idr (sum_to k part) ∙ r)

less_more : (S x : ℤ) → pos 0 -ℤ S +ℤ (pos 0 -ℤ x) ≡ pos 0 -ℤ (S +ℤ x)
less_more S x = rw (⊖of S, ⊖of x) (simp ⊖s (omega arith))

less_none : (S : ℤ) → pos 0 -ℤ S +ℤ pos 0 ≡ pos 0 -ℤ (S +ℤ pos 0)
less_none S = rw (⊖of S) (simp ⊖s (omega arith))

less_each : (k : ℕ) (c : ℕ → Bool) (x : ℕ → ℤ) → sum_to k (λ j. cond (c j) (pos 0 -ℤ x j) (pos 0)) ≡ pos 0 -ℤ sum_to k (λ j. cond (c j) (x j) (pos 0))
unfolding sum_to
less_each zero c x = refl
less_each (suc k) c x = ap (λ (z : ℤ). z +ℤ cond (c k) (pos 0 -ℤ x k) (pos 0)) (less_each k c x) ∙ by (c k)
  where
    S : ℤ
    S = sum_to k (λ j. cond (c j) (x j) (pos 0))

    by : (b : Bool) → pos 0 -ℤ S +ℤ cond b (pos 0 -ℤ x k) (pos 0) ≡ pos 0 -ℤ (S +ℤ cond b (x k) (pos 0))
    by true = less_more S (x k)
    by false = less_none S

as_sum : (A B : ℤ) → A -ℤ B ≡ A +ℤ (pos 0 -ℤ B)
as_sum A B = rw (⊖of A, ⊖of B) (simp ⊖s (omega arith))

-- ---- a set's shortfall

module _ (g : Grid) (process : Process) (cs : List Contract) (over : List ℕ) (Listed-in : Listed g.factors.constraints (overloaded g process cs) over)
    (m : ℕ) where
  abbrev K : ℕ
  K = g.factors.constraints

  abbrev R : ℕ → ℤ
  R j = pos (released g.limits process j)

  abbrev raw : Contract → ℕ → ℤ
  raw c j = raw_of g process cs over 0 c j

  pub set-cost : cost_of g process cs m ≡ unit_cost g process cs over (overload_count g process cs) m *ℤ pos max_price
  unfolding set_prices in_set unit_cost overload_count
  set-cost =
      units_cost g process cs (in_set g process cs m)
      ∙ ap (λ (z : ℤ). z *ℤ pos max_price)
      (as_sum (sum_over_of cs (λ (c : Contract). counted c.kind (sum_to K (λ j. cond (in_set g process cs m j) (raw c j) (pos 0)))))
      (sum_to K (λ j. cond (in_set g process cs m j) (R j) (pos 0)))
      ∙ ap₂ ◌+ℤ◌ (sum_over-cong cs (λ c. ap (counted c.kind) (compact (overloaded g process cs) over (raw c) m K Listed-in.at)))
      (sym (less_each K (in_set g process cs m) R) ∙ compact (overloaded g process cs) over (λ (j : ℕ). pos 0 -ℤ R j) m K Listed-in.at))

-- by the cells of the excesses
pub listed-over : (g : Grid) (process : Process) (cs : List Contract) (cells : List ℤ) → AreExcesses g process cs cells → (over : List ℕ)
    → Listed g.factors.constraints (above_in cells) over → Listed g.factors.constraints (overloaded g process cs) over
listed-over g process cs cells are over l =
    record {
      at = λ j h t. ap (λ (c : ℕ). get_or over c 0) (sym (same j h)) ∙ l.at j h (cell_over g process cs cells are j h ∙ t);
      below = λ s h. l.below s (rw (all) h);
    }
  where
    K : ℕ
    K = g.factors.constraints

    same : (j : ℕ) → j < g.factors.constraints → count_of j (above_in cells) ≡ count_of j (overloaded g process cs)
    same j h = count-cong j (above_in cells) (overloaded g process cs) (λ i b. cell_over g process cs cells are i (omega arith))

    all : count_of g.factors.constraints (above_in cells) ≡ count_of g.factors.constraints (overloaded g process cs)
    all = count-cong g.factors.constraints (above_in cells) (overloaded g process cs) (λ i b. cell_over g process cs cells are i b)

-- ---- the largest, but for the price

lt_z_times : (a b : ℤ) (M m : ℕ) → M ≡ suc m → lt_z a b ≡ lt_z (a *ℤ pos M) (b *ℤ pos M)
lt_z_times a b M m e =
    by_bool (lt_z a b) (λ t. t ∙ is_true (a *ℤ pos M) (b *ℤ pos M) (rw e (less_times a b m (lt_z_yes (rw t tt)))))
    (λ t. t ∙ is_false (a *ℤ pos M) (b *ℤ pos M) (*pos_mono M (lt_z_no {a = a} {b = b} (rw t tt))))

largest_times : (n : ℕ) (f g : ℕ → ℤ) (M m : ℕ) → M ≡ suc m → ((j : ℕ) → j < n → g j ≡ f j *ℤ pos M) → largest_of n f ≡ largest_of n g
unfolding largest_of
largest_times zero f g M m e h = refl
largest_times (suc n) f g M m e h = step (largest_times n f g M m e (λ j l. h j (omega arith)))
  where
    step : largest_of n f ≡ largest_of n g → cond (lt_z (f (largest_of n f)) (f n)) n (largest_of n f) ≡ cond (lt_z (g (largest_of n g)) (g n)) n (largest_of n g)
    step q =
        let l = largest_of n f in
        let top : f l *ℤ pos M ≡ g (largest_of n g) = sym (h l (omega (arith, largest_upto n f))) ∙ ap g q in
        ap₂ (λ (b : Bool) (i : ℕ). cond b n i) (lt_z_times (f l) (f n) M m e ∙ ap₂ lt_z top (sym (h n (omega arith)))) q

module _ (g : Grid) (process : Process) (cs : List Contract) (over : List ℕ) (Listed-in : Listed g.factors.constraints (overloaded g process cs) over)
    (count : ℕ)
    (counts : count ≡ overload_count g process cs) (costs : List ℤ) (units : UnitCosts g process cs over count costs) where
  cost_cell : (j : ℕ) → j < 2 ^ count → cost_of g process cs j ≡ cell_at costs j *ℤ pos max_price
  cost_cell j h =
      set-cost g process cs over Listed-in j
      ∙ ap (λ (c : ℕ). unit_cost g process cs over c j *ℤ pos max_price) (sym counts) ∙ ap (λ (z : ℤ). z *ℤ pos max_price) (sym (units.each j h))

  pub best_made : (n : ℕ) → n ≡ 2 ^ count → (r : Best) → r.set ≡ largest_of n (cell_at costs) → Exactly (max0 (cell_at costs r.set) *ℤ pos max_price) r.cost
      → BestSet g process cs (2 ^ count) r
  best_made n e r s c =
      let best : r.set ≡ largest_of (2 ^ count) (cell_at costs) = s ∙ ap (λ (x : ℕ). largest_of x (cell_at costs)) e in
      let is : r.set ≡ largest_of (2 ^ count) (cost_of g process cs) = best ∙ largest_times (2 ^ count) (cell_at costs) (cost_of g process cs) max_price 499999
      (omega arith) cost_cell in
      let inside : r.set < 2 ^ count = rw best (largest_inside (2 ^ count) (cell_at costs) (pow_pos count)) in
      let cell = cost_cell r.set inside in
      let most : pos 0 ≤ℤ cost_of g process cs r.set = ≤ℤ-trans (≤ℤ-of_≡ (sym (set-none g process cs)))
      (≤ℤ-trans (largest_most (2 ^ count) (cost_of g process cs) 0 (pow_pos count)) (≤ℤ-of_≡ (ap (cost_of g process cs) (sym is)))) in
      let up : pos 0 ≤ℤ cell_at costs r.set = not_below (cell_at costs r.set) max_price 499999 (omega arith) (≤ℤ-trans most (≤ℤ-of_≡ cell)) in
      record { set_is = is; cost_is = exactly_of r.cost (ap (λ (z : ℤ). z *ℤ pos max_price) (max0-same (cell_at costs r.set) up) ∙ sym cell) c }
    where
      not_below : (z : ℤ) (M m : ℕ) → M ≡ suc m → pos 0 ≤ℤ (z *ℤ pos M) → pos 0 ≤ℤ z
      not_below z M m q h = cancel (pos 0) z m (≤ℤ-trans (≤ℤ-of_≡ (zero-*ℤ (pos (suc m)))) (rw q at h))

  -- of the first cells alone
  module _ (n : ℕ) (e : n ≡ 2 ^ count) (few : n ≤ 1024) where
    long : length (take n costs) ≡ n
    long = length-take-le n costs (omega (arith, few, units.length-is))

    front : (j : ℕ) → j < n → cell_at (take n costs) j ≡ cell_at costs j
    front j h = get_or-take n costs j (pos 0) h

    some : 0 < n
    some = rw e (pow_pos count)

    pub front_figures : Figures (length (take n costs)) (take n costs) × (0 < length (take n costs))
    front_figures = (
      record {
        few = rw long few;
        long = omega arith;
        sized = λ j h. let l : j < n = rw long at h in rw (front j l) (units.sized j (rw e at l));
      },
      rw long some,
    )

    pub front-best : (r : Best) → r.set ≡ largest_of (length (take n costs)) (cell_at (take n costs))
        → Exactly (max0 (cell_at (take n costs) r.set) *ℤ pos max_price) r.cost → BestSet g process cs (2 ^ count) r
    front-best r s c =
        let set : r.set ≡ largest_of n (cell_at costs) =
        s ∙ ap (λ (x : ℕ). largest_of x (cell_at (take n costs))) long ∙ largest_cong n (cell_at (take n costs)) (cell_at costs) front in
        let inside : r.set < n = rw set (largest_inside n (cell_at costs) some) in
        best_made n e r set (exactly_of r.cost (ap (λ (z : ℤ). max0 z *ℤ pos max_price) (front r.set inside)) c)
