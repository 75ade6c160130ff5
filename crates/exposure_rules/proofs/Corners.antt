-- Some list of highest prices and zeros, with zeros where nothing is overloaded, costs as much as any price list: each price in turn is moved to one of its ends.
use mathlib.Core.Path.{◌≡◌, refl, sym, ap, ap₂, ◌∙◌}
use mathlib.Core.Bool.{Bool, true, false, not, cond}
use mathlib.Core.List.{List}
use Prim.Native.Nat.{ℕ, zero, suc, ◌+◌, ◌-◌, ◌≤◌, ◌<◌}
use native.Mathlib.Nat.{add-zero, zero-add, mul-le-mul_right}
use native.Mathlib.Omega.{arith}
use borrow.Author.Tests.{ltb-true, ltb-false, lt-ltb, le-ltb, eqb-true, eqb-false, eq-eqb, ne_eqb}
use lib.Dec.{T, eqb, ltb}
use lib.IntN.{ℤ, pos, ◌+ℤ◌, ◌-ℤ◌, ◌*ℤ◌, *ℤ-zero, zero-*ℤ}
use lib.Signed.{◌≤ℤ◌, ◌<ℤ◌, ≤ℤ_refl, lt_z, lt_z_yes, lt_z_no, clash_ℤ}
use Rattle.integers.specs.Sums.{max0, sum_to, sum_over_of}
use Rattle.integers.proofs.Linear.{⊖of, ⊖s, ≤ℤ-trans, ≤ℤ-antisym, ≤ℤ-of_≡, *-+ℤ, *pos_mono, +ℤ-mono}
use Rattle.integers.proofs.Sums.{sum_to_cong, sum_to_plus, sum_to_one, sum_over-cong, sum_over-mono, sum_over-times}
use Rattle.lists.specs.Lists.{list_to}
use Rattle.lists.proofs.Lists.{get_d_list_to, list_to-cong, list_to-is}
use Rattle.tariff.specs.declared.contracts.Kind.{Kind}
use Rattle.tariff.specs.declared.contracts.Kind.TheVariants.{Obligation, Option}
use Rattle.tariff.specs.declared.contracts.Contract.{Contract}
use Rattle.tariff.specs.declared.processes.Process.{Process}
use Rattle.tariff.specs.Units.{Factors, Grid, factor, price, max_price}
use Rattle.tariff.specs.ContractRules.{counted}
use Rattle.tariff.specs.Settlement.{congestion, mcc, amount, exact_total}
use Rattle.tariff.specs.Feasibility.{flow, total_flow, released, excess, overloaded}
use Rattle.tariff.specs.Shortfall.{PriceList, net_payment, rent, shortfall, IsWorst}
use Rattle.tariff.proofs.Worst.{linear}
use Rattle.test_flow_laws.proofs.Additive.{counted-product}
use Rattle.exposure_rules.specs.Exposure.{highest_where}
use Rattle.exposure_rules.specs.Theorems.{AtCorner}
use Rattle.exposure_rules.proofs.Plain.{lt_le, sum_to_times, sum_over-plus}
use Rattle.exposure_rules.proofs.Scaling.{highest_list}
use Rattle.exposure_rules.proofs.Bounds.{by_bool, not_over_within}

-- ---- what counts is convex, and at most what counts of the parts

max0-add : (a b : ℤ) → max0 (a +ℤ b) ≤ℤ (max0 a +ℤ max0 b)
max0-add a b = rw (⊖of a, ⊖of b) (simp ⊖s (omega arith))

counted-add : (d : Kind) (a b : ℤ) → counted d (a +ℤ b) ≤ℤ (counted d a +ℤ counted d b)
counted-add Obligation a b = ≤ℤ_refl (a +ℤ b)
counted-add Option a b = max0-add a b

mix : (a x : ℤ) (u v : ℕ) → (a +ℤ x *ℤ pos v) *ℤ pos (u + v) ≡ a *ℤ pos u +ℤ (a +ℤ x *ℤ pos (u + v)) *ℤ pos v
mix a x u v = rw (⊖of a, ⊖of x) (simp ⊖s (omega arith))

counted-mix : (d : Kind) (a x : ℤ) (u v : ℕ) → (counted d (a +ℤ x *ℤ pos v) *ℤ pos (u + v)) ≤ℤ (counted d a *ℤ pos u +ℤ counted d (a +ℤ x *ℤ pos (u + v)) *ℤ pos v)
counted-mix d a x u v =
    ≤ℤ-trans (≤ℤ-of_≡ (sym (counted-product d (a +ℤ x *ℤ pos v) (u + v)) ∙ ap (counted d) (mix a x u v)))
    (≤ℤ-trans (counted-add d (a *ℤ pos u) ((a +ℤ x *ℤ pos (u + v)) *ℤ pos v))
    (≤ℤ-of_≡ (ap₂ ◌+ℤ◌ (counted-product d a u) (counted-product d (a +ℤ x *ℤ pos (u + v)) v))))

counted-part : (d : Kind) (a x : ℤ) (v : ℕ) → counted d (a +ℤ x *ℤ pos v) ≤ℤ (counted d a +ℤ counted d x *ℤ pos v)
counted-part d a x v = ≤ℤ-trans (counted-add d a (x *ℤ pos v)) (≤ℤ-of_≡ (ap (λ (z : ℤ). counted d a +ℤ z) (counted-product d x v)))

-- ---- one price changed

abbrev with : ℕ → ℕ → (ℕ → ℕ) → ℕ → ℕ
with k v w j = cond (eqb j k) v (w j)

with_at : (n k v : ℕ) (w : ℕ → ℕ) (x : ℕ → ℤ) → k < n → sum_to n (λ j. x j *ℤ pos (with k v w j)) ≡ sum_to n (λ j. x j *ℤ pos (with k 0 w j)) +ℤ x k *ℤ pos v
with_at n k v w x h =
    sum_to_cong n (λ j b. term j (eqb j k)) ∙ sum_to_plus n (λ j. x j *ℤ pos (with k 0 w j)) (λ j. x j *ℤ pos (cond (eqb j k) v 0))
    ∙ ap (λ (z : ℤ). sum_to n (λ j. x j *ℤ pos (with k 0 w j)) +ℤ z)
    (sum_to_one n k (λ j. x j *ℤ pos (cond (eqb j k) v 0)) h (λ j b ne. rw (ne_eqb j k ne) (*ℤ-zero (x j))) ∙ rw (eq-eqb k k refl) refl)
  where
    term : (j : ℕ) (b : Bool) → x j *ℤ pos (cond b v (w j)) ≡ x j *ℤ pos (cond b 0 (w j)) +ℤ x j *ℤ pos (cond b v 0)
    term j true = rw (zero-add v) at (*-+ℤ (x j) (pos 0) (pos v))
    term j false = rw (add-zero (w j)) at (*-+ℤ (x j) (pos (w j)) (pos 0))

-- ---- a sum paid less a rent

mix_less : (P Q R B b c : ℤ) (n u v : ℕ) → (P *ℤ pos n) ≤ℤ (Q *ℤ pos u +ℤ R *ℤ pos v) → B *ℤ pos n ≡ b *ℤ pos u +ℤ c *ℤ pos v
    → ((P -ℤ B) *ℤ pos n) ≤ℤ ((Q -ℤ b) *ℤ pos u +ℤ (R -ℤ c) *ℤ pos v)
mix_less P Q R B b c n u v = rw (⊖of P, ⊖of Q, ⊖of R, ⊖of B, ⊖of b, ⊖of c) (simp ⊖s (omega arith))

part-less : (P Q T b R : ℤ) (v : ℕ) → P ≤ℤ (Q +ℤ T *ℤ pos v) → (P -ℤ (b +ℤ R *ℤ pos v)) ≤ℤ ((Q -ℤ b) +ℤ (T -ℤ R) *ℤ pos v)
part-less P Q T b R v = rw (⊖of P, ⊖of Q, ⊖of T, ⊖of b, ⊖of R) (simp ⊖s (omega arith))

pub less_times : (z s : ℤ) (m : ℕ) → z <ℤ s → (z *ℤ pos (suc m)) <ℤ (s *ℤ pos (suc m))
less_times z s m = rw (⊖of z, ⊖of s) (simp ⊖s (λ h. omega (arith, mul-le-mul_right (suc m) h)))

-- no more than each of two is no more than their mixture
pub cancel : (s z : ℤ) (m : ℕ) → (s *ℤ pos (suc m)) ≤ℤ (z *ℤ pos (suc m)) → s ≤ℤ z
cancel s z m h = by (lt_z z s) (λ t. lt_z_yes t) (λ t. lt_z_no t)
  where
    by : (b : Bool) → (T b → z <ℤ s) → (T (not b) → s ≤ℤ z) → s ≤ℤ z
    by true lo hi = clash_ℤ {a = z *ℤ pos (suc m)} {b = s *ℤ pos (suc m)} (less_times z s m (lo tt)) h
    by false lo hi = hi tt

within_both : (s a b z : ℤ) (u v m : ℕ) → u + v ≡ suc m → (s *ℤ pos (u + v)) ≤ℤ (a *ℤ pos u +ℤ b *ℤ pos v) → a ≤ℤ z → b ≤ℤ z → s ≤ℤ z
within_both s a b z u v m e h ha hb =
    cancel s z m (rw e at (≤ℤ-trans h (≤ℤ-trans (+ℤ-mono (*pos_mono u ha) (*pos_mono v hb)) (≤ℤ-of_≡ (sym (*-+ℤ z (pos u) (pos v)))))))

nothing_more : (a e : ℤ) (v : ℕ) → e ≤ℤ pos 0 → (a +ℤ e *ℤ pos v) ≤ℤ a
nothing_more a e v h = less a (e *ℤ pos v) (≤ℤ-trans (*pos_mono v h) (≤ℤ-of_≡ (zero-*ℤ (pos v))))
  where
    less : (a x : ℤ) → x ≤ℤ pos 0 → (a +ℤ x) ≤ℤ a
    less a x = rw (⊖of a, ⊖of x) (simp ⊖s (omega arith))

module _ (g : Grid) (process : Process) (cs : List Contract) where
  abbrev F : Factors
  F = g.factors

  abbrev K : ℕ
  K = g.factors.constraints

  abbrev R : ℕ → ℤ
  R k = pos (released g.limits process k)

  -- by prices as a function
  abbrev raw : Contract → ℕ → ℤ
  raw c k = (factor F c.source k -ℤ factor F c.sink k) *ℤ pos c.quantity.0

  paid : (ℕ → ℕ) → Contract → ℤ
  paid w c = counted c.kind (sum_to K (λ k. raw c k *ℤ pos (w k)))

  owed : (ℕ → ℕ) → ℤ
  owed w = sum_to K (λ k. R k *ℤ pos (w k))

  cost : (ℕ → ℕ) → ℤ
  cost w = sum_over_of cs (paid w) -ℤ owed w

  opened : (w : ℕ → ℕ) (c : Contract) → counted c.kind (sum_to K (λ k. raw c k *ℤ pos (w k))) ≡ paid w c
  unfolding paid
  opened w c = refl

  price-is : (w : ℕ → ℕ) (k : ℕ) → k < K → price (list_to K w) k ≡ w k
  price-is w k h = get_d_list_to K w k 0 h

  paid_is : (w : ℕ → ℕ) (c : Contract) → amount F (list_to K w) c ≡ paid w c
  unfolding amount mcc congestion paid
  paid_is w c =
      ap (counted c.kind)
      (linear K (factor F c.source) (factor F c.sink) (price (list_to K w)) c.quantity.0
      ∙ sum_to_cong K (λ k h. ap (λ (n : ℕ). raw c k *ℤ pos n) (price-is w k h)))

  cost_is : (w : ℕ → ℕ) → shortfall g process cs (list_to K w) ≡ cost w
  unfolding shortfall net_payment exact_total rent cost owed
  cost_is w = ap₂ ◌-ℤ◌ (sum_over-cong cs (paid_is w)) (sum_to_cong K (λ k h. ap (λ (n : ℕ). R k *ℤ pos n) (price-is w k h)))

  -- ---- the highest price on the constraints chosen: as many times what one cent costs there

  module _ (chosen : ℕ → Bool) where
    weigh : (x : ℕ → ℤ) → sum_to K (λ k. x k *ℤ pos (cond (chosen k) max_price 0)) ≡ sum_to K (λ k. cond (chosen k) (x k) (pos 0)) *ℤ pos max_price
    weigh x = sum_to_cong K (λ k h. by (x k) (chosen k)) ∙ sum_to_times K (λ k. cond (chosen k) (x k) (pos 0)) (pos max_price)
      where
        by : (z : ℤ) (b : Bool) → z *ℤ pos (cond b max_price 0) ≡ cond b z (pos 0) *ℤ pos max_price
        by z true = refl
        by z false = *ℤ-zero z ∙ sym (zero-*ℤ (pos max_price))

    less : (a b : ℤ) (m : ℕ) → a *ℤ pos m -ℤ b *ℤ pos m ≡ (a -ℤ b) *ℤ pos m
    less a b m = rw (⊖of a, ⊖of b) (simp ⊖s (omega arith))

    pub units_cost : shortfall g process cs (highest_where K chosen)
        ≡ (sum_over_of cs (λ (c : Contract). counted c.kind (sum_to K (λ k. cond (chosen k) (raw c k) (pos 0)))) -ℤ sum_to K
        (λ k. cond (chosen k) (R k) (pos 0))) *ℤ pos max_price
    unfolding highest_where cost paid owed
    units_cost =
        cost_is (λ k. cond (chosen k) max_price 0)
        ∙ ap₂ ◌-ℤ◌
        (sum_over-cong cs (λ c. ap (counted c.kind) (weigh (raw c)) ∙ counted-product c.kind (sum_to K (λ k. cond (chosen k) (raw c k) (pos 0))) max_price)
        ∙ sum_over-times cs (λ (c : Contract). counted c.kind (sum_to K (λ k. cond (chosen k) (raw c k) (pos 0)))) (pos max_price))
        (weigh R)
        ∙ less (sum_over_of cs (λ (c : Contract). counted c.kind (sum_to K (λ k. cond (chosen k) (raw c k) (pos 0)))))
        (sum_to K (λ k. cond (chosen k) (R k) (pos 0))) max_price

  -- ---- one price changed

  module _ (k : ℕ) (h : k < K) (w : ℕ → ℕ) where
    paid_at : (v : ℕ) (c : Contract) → paid (with k v w) c ≡ counted c.kind (sum_to K (λ j. raw c j *ℤ pos (with k 0 w j)) +ℤ raw c k *ℤ pos v)
    unfolding paid
    paid_at v c = ap (counted c.kind) (with_at K k v w (raw c) h)

    owed_at : (v : ℕ) → owed (with k v w) ≡ owed (with k 0 w) +ℤ R k *ℤ pos v
    unfolding owed
    owed_at v = with_at K k v w R h

    paid_mix : (u v : ℕ) (c : Contract) → (paid (with k v w) c *ℤ pos (u + v)) ≤ℤ (paid (with k 0 w) c *ℤ pos u +ℤ paid (with k (u + v) w) c *ℤ pos v)
    paid_mix u v c =
        ≤ℤ-trans (≤ℤ-of_≡ (ap (λ (z : ℤ). z *ℤ pos (u + v)) (paid_at v c)))
        (≤ℤ-trans (counted-mix c.kind (sum_to K (λ j. raw c j *ℤ pos (with k 0 w j))) (raw c k) u v)
        (≤ℤ-of_≡ (ap₂ (λ (y z : ℤ). y *ℤ pos u +ℤ z *ℤ pos v) (opened (with k 0 w) c) (sym (paid_at (u + v) c)))))

    paid_part : (v : ℕ) (c : Contract) → paid (with k v w) c ≤ℤ (paid (with k 0 w) c +ℤ flow F c k *ℤ pos v)
    unfolding paid flow
    paid_part v c =
        ≤ℤ-trans (≤ℤ-of_≡ (ap (counted c.kind) (with_at K k v w (raw c) h))) (counted-part c.kind (sum_to K (λ j. raw c j *ℤ pos (with k 0 w j))) (raw c k) v)

    cost_mix : (u v : ℕ) → (cost (with k v w) *ℤ pos (u + v)) ≤ℤ (cost (with k 0 w) *ℤ pos u +ℤ cost (with k (u + v) w) *ℤ pos v)
    unfolding cost
    cost_mix u v =
        mix_less (sum_over_of cs (paid (with k v w))) (sum_over_of cs (paid (with k 0 w))) (sum_over_of cs (paid (with k (u + v) w))) (owed (with k v w)) (owed (with k 0 w))
        (owed (with k (u + v) w)) (u + v) u v
        (≤ℤ-trans (≤ℤ-of_≡ (sym (sum_over-times cs (paid (with k v w)) (pos (u + v)))))
        (≤ℤ-trans (sum_over-mono cs (paid_mix u v))
        (≤ℤ-of_≡ (sum_over-plus cs (λ c. paid (with k 0 w) c *ℤ pos u) (λ c. paid (with k (u + v) w) c *ℤ pos v)
        ∙ ap₂ ◌+ℤ◌ (sum_over-times cs (paid (with k 0 w)) (pos u)) (sum_over-times cs (paid (with k (u + v) w)) (pos v))))))
        (ap (λ (z : ℤ). z *ℤ pos (u + v)) (owed_at v) ∙ mix (owed (with k 0 w)) (R k) u v ∙ ap (λ (z : ℤ). owed (with k 0 w) *ℤ pos u +ℤ z *ℤ pos v)
        (sym (owed_at (u + v))))

    cost_part : (v : ℕ) → cost (with k v w) ≤ℤ (cost (with k 0 w) +ℤ excess g process cs k *ℤ pos v)
    unfolding cost excess total_flow
    cost_part v =
        ≤ℤ-trans (≤ℤ-of_≡ (ap (λ (z : ℤ). sum_over_of cs (paid (with k v w)) -ℤ z) (owed_at v)))
        (part-less (sum_over_of cs (paid (with k v w))) (sum_over_of cs (paid (with k 0 w))) (sum_over_of cs (λ c. flow F c k)) (owed (with k 0 w)) (R k) v
        (≤ℤ-trans (sum_over-mono cs (paid_part v))
        (≤ℤ-of_≡ (sum_over-plus cs (paid (with k 0 w)) (λ c. flow F c k *ℤ pos v) ∙ ap (λ (z : ℤ). sum_over_of cs (paid (with k 0 w)) +ℤ z)
        (sum_over-times cs (λ c. flow F c k) (pos v))))))

    -- a price up to the most is moved to an end that costs no less, to 0 where the constraint is not overloaded
    record Moved : Type 0 where
      up : Bool
      only_over : up ≡ true → overloaded g process cs k ≡ true
      no_less : cost w ≤ℤ cost (with k (cond up max_price 0) w)

    as_is : cost w ≡ cost (with k (w k) w)
    as_is = sym (cost_is w) ∙ ap (shortfall g process cs) (list_to-cong K w (with k (w k) w) same) ∙ cost_is (with k (w k) w)
      where
        same : (j : ℕ) → j < K → w j ≡ with k (w k) w j
        same j b = by_bool (eqb j k) (λ e. ap w (eqb-true j k e) ∙ sym (ap (λ (c : Bool). cond c (w k) (w j)) e))
            (λ e. sym (ap (λ (c : Bool). cond c (w k) (w j)) e))

    move : w k ≤ max_price → Moved
    move small = by_bool (overloaded g process cs k) over not_over
      where
        not_over : overloaded g process cs k ≡ false → Moved
        not_over t =
            record {
              up = false;
              only_over = λ e. absurd (let z : ◌≡◌ {A = ℕ} 0 1 = cc in omega arith);
              no_less = ≤ℤ-trans (≤ℤ-of_≡ as_is) (≤ℤ-trans (cost_part (w k))
                  (nothing_more (cost (with k 0 w)) (excess g process cs k) (w k) (not_over_within g process cs k t)));
            }

        back : max_price - w k + w k ≡ max_price
        back = omega arith

        mixed : (cost (with k (w k) w) *ℤ pos (max_price - w k + w k)) ≤ℤ (cost (with k 0 w) *ℤ pos (max_price - w k) +ℤ cost (with k max_price w) *ℤ pos (w k))
        mixed =
            ≤ℤ-trans (cost_mix (max_price - w k) (w k))
            (≤ℤ-of_≡ (ap (λ (m : ℕ). cost (with k 0 w) *ℤ pos (max_price - w k) +ℤ cost (with k m w) *ℤ pos (w k)) back))

        ends : (z : ℤ) → cost (with k 0 w) ≤ℤ z → cost (with k max_price w) ≤ℤ z → cost w ≤ℤ z
        ends z a b = ≤ℤ-trans (≤ℤ-of_≡ as_is) (within_both (cost (with k (w k) w)) (cost (with k 0 w)) (cost (with k max_price w)) z (max_price - w k) (w k)
            (max_price - 1) (omega arith) mixed a b)

        by : overloaded g process cs k ≡ true → (b : Bool) → (T b → cost (with k 0 w) ≤ℤ cost (with k max_price w))
            → (T (not b) → cost (with k max_price w) ≤ℤ cost (with k 0 w)) → Moved
        by t true lo hi = record { up = true; only_over = λ e. t; no_less = ends (cost (with k max_price w)) (lo tt) (≤ℤ_refl (cost (with k max_price w))) }
        by t false lo hi = record { up = false; only_over = λ e. t; no_less = ends (cost (with k 0 w)) (≤ℤ_refl (cost (with k 0 w))) (hi tt) }

        over : overloaded g process cs k ≡ true → Moved
        over t = by t (lt_z (cost (with k 0 w)) (cost (with k max_price w))) (λ e. lt_le (lt_z_yes e)) (λ e. lt_z_no e)

  -- ---- all prices in turn

  abbrev moved : ℕ → (ℕ → Bool) → (ℕ → ℕ) → ℕ → ℕ
  moved n chosen w j = cond (ltb j n) (cond (chosen j) max_price 0) (w j)

  record Corner (n : ℕ) (w : ℕ → ℕ) : Type 0 where
    chosen : ℕ → Bool
    only_over : (j : ℕ) → j < n → chosen j ≡ true → overloaded g process cs j ≡ true
    no_less : cost w ≤ℤ cost (moved n chosen w)

  same_cost : (v w : ℕ → ℕ) → ((j : ℕ) → j < K → v j ≡ w j) → cost v ≡ cost w
  same_cost v w h = sym (cost_is v) ∙ ap (shortfall g process cs) (list_to-cong K v w h) ∙ cost_is w

  next : (n : ℕ) (w : ℕ → ℕ) → n < K → w n ≤ max_price → Corner n w → Corner (suc n) w
  next n w h small c =
      record {
        chosen = also;
        only_over = λ j b e. by_bool (eqb j n) (λ q. ap (overloaded g process cs) (eqb-true j n q) ∙ m.only_over
            (sym (ap (λ (x : Bool). cond x m.up (c.chosen j)) q) ∙ e))
            (λ q. let ne = eqb-false j n q in c.only_over j (omega (arith, ne)) (sym (ap (λ (x : Bool). cond x m.up (c.chosen j)) q) ∙ e));
        no_less = ≤ℤ-trans c.no_less (≤ℤ-trans m.no_less
            (≤ℤ-of_≡ (same_cost (with n (cond m.up max_price 0) before) (moved (suc n) also w) (λ j b. same j))));
      }
    where
      before : ℕ → ℕ
      before = moved n c.chosen w

      m : Moved n h before
      m = move n h before (rw (le-ltb n n (omega arith)) small)

      also : ℕ → Bool
      also j = cond (eqb j n) m.up (c.chosen j)

      at : (j : ℕ) → eqb j n ≡ true → with n (cond m.up max_price 0) before j ≡ moved (suc n) also w j
      at j q = let e = eqb-true j n q in rw (q, lt-ltb j (suc n) (omega arith)) refl

      off : (j : ℕ) → eqb j n ≡ false → with n (cond m.up max_price 0) before j ≡ moved (suc n) also w j
      off j q =
          let ne = eqb-false j n q in
          by_bool (ltb j n) (λ t. let l = ltb-true j n t in rw (q, t, lt-ltb j (suc n) (omega arith)) refl)
          (λ t. let l = ltb-false j n t in rw (q, t, le-ltb j (suc n) (omega (arith, ne))) refl)

      same : (j : ℕ) → with n (cond m.up max_price 0) before j ≡ moved (suc n) also w j
      same j = by_bool (eqb j n) (at j) (off j)

  corner : (n : ℕ) (w : ℕ → ℕ) → n ≤ K → ((j : ℕ) → j < K → w j ≤ max_price) → Corner n w
  corner zero w h small =
      record {
        chosen = λ j. false;
        only_over = λ j b e. absurd (omega arith);
        no_less = ≤ℤ-of_≡ (same_cost w (moved 0 (λ j. false) w) (λ j b. sym (rw (le-ltb j 0 (omega arith)) refl)));
      }
  corner (suc n) w h small = next n w (omega arith) (small n (omega arith)) (corner n w (omega arith) small)

  -- ---- no price list costs more than some list of highest prices on overloaded constraints alone

  pub record CostsMost (p : List ℕ) : Type 0 where
    pub chosen : ℕ → Bool
    pub only_over : (j : ℕ) → j < K → chosen j ≡ true → overloaded g process cs j ≡ true
    pub no_less : shortfall g process cs p ≤ℤ shortfall g process cs (highest_where K chosen)

  as_function : (p : List ℕ) → PriceList K p → p ≡ list_to K (price p)
  as_function p l = rw (← l.one_each) (sym (list_to-is p (price p) 0 (λ i h. refl)))

  pub corner_costs_most : (p : List ℕ) → PriceList K p → CostsMost p
  unfolding highest_where
  corner_costs_most p l =
      record {
        chosen = c.chosen;
        only_over = c.only_over;
        no_less =
            ≤ℤ-trans (≤ℤ-of_≡ (ap (shortfall g process cs) (as_function p l) ∙ cost_is (price p)))
            (≤ℤ-trans c.no_less (≤ℤ-of_≡ (same_cost (moved K c.chosen (price p)) ends (λ j b. ap (λ (x : Bool). cond x (ends j) (price p j)) (lt-ltb j K b))
            ∙ sym (cost_is ends))));
      }
    where
      c : Corner K (price p)
      c = corner K (price p) (omega arith) l.capped

      ends : ℕ → ℕ
      ends j = cond (c.chosen j) max_price 0

  -- so the worst shortfall is that of one of these lists
  pub worst-at_corner : (w : ℤ) → IsWorst g process cs w → AtCorner g process cs w
  worst-at_corner w h =
      let c = corner_costs_most h.prices h.is-list in
      record {
        chosen = c.chosen;
        only_overloaded = c.only_over;
        reached = ≤ℤ-antisym (h.most (highest_where K c.chosen) (highest_list K c.chosen)) (≤ℤ-trans (≤ℤ-of_≡ (sym h.reached)) c.no_less);
      }
