-- Prices times a number: every shortfall is as many times as large. So lists of the highest price on some constraints go by lists of one cent there.
use mathlib.Core.Path.{◌≡◌, refl, sym, ap, ap₂, ◌∙◌}
use mathlib.Core.Logic.{◌≢◌}
use mathlib.Core.Bool.{Bool, true, false, cond}
use mathlib.Core.List.{List}
use Prim.Native.Nat.{ℕ, ◌*◌, ◌≤◌, ◌<◌}
use native.Mathlib.Nat.{mul-zero}
use native.Mathlib.Decide.{ℕ_discrete}
use native.Mathlib.Omega.{arith}
use lib.ListN.{replicate, length-replicate, get_or-replicate}
use lib.Seq.{get_or-set_same, get_or-set_other}
use lib.IntN.{ℤ, pos, neg_ℤ, ◌-ℤ◌, ◌*ℤ◌, *ℤ-zero}
use Rattle.integers.specs.Sums.{sum_to, sum_over_of}
use Rattle.integers.proofs.Linear.{⊖of, ⊖s, *ℤ-assoc, neg_*, expand, monos}
use Rattle.integers.proofs.Sums.{sum_to_cong, sum_over-cong, sum_over-times}
use Rattle.lists.proofs.Lists.{length-list_to, get_d_list_to}
use Rattle.tariff.specs.declared.contracts.Contract.{Contract}
use Rattle.tariff.specs.declared.processes.Process.{Process}
use Rattle.tariff.specs.Units.{Factors, Grid, factor, price, max_price}
use Rattle.tariff.specs.ContractRules.{counted}
use Rattle.tariff.specs.Settlement.{congestion, mcc, amount, exact_total}
use Rattle.tariff.specs.Feasibility.{released, excess}
use Rattle.tariff.specs.Shortfall.{PriceList, net_payment, rent, shortfall, one_cent}
use Rattle.tariff.proofs.Worst.{only_shortfall}
use Rattle.test_flow_laws.proofs.Additive.{counted-product}
use Rattle.exposure_rules.proofs.Plain.{sum_to_times}
use Rattle.exposure_rules.specs.Exposure.{highest_where}

spread-times : (a b : ℤ) (q m : ℕ) → (a *ℤ pos m -ℤ b *ℤ pos m) *ℤ pos q ≡ (a -ℤ b) *ℤ pos q *ℤ pos m
spread-times a b q m = simp expand (simp monos (omega arith))

minus-times : (a b : ℤ) (m : ℕ) → a *ℤ pos m -ℤ b *ℤ pos m ≡ (a -ℤ b) *ℤ pos m
minus-times a b m = rw (⊖of a, ⊖of b) (simp ⊖s (omega arith))

-- p times m, on the constraints of g
module _ (g : Grid) (p q : List ℕ) (m : ℕ) (times : (j : ℕ) → j < g.factors.constraints → price q j ≡ price p j * m) where
  abbrev F : Factors
  F = g.factors

  abbrev K : ℕ
  K = g.factors.constraints

  weighed_times : (x : ℕ → ℤ) → sum_to K (λ j. x j *ℤ pos (price q j)) ≡ sum_to K (λ j. x j *ℤ pos (price p j)) *ℤ pos m
  weighed_times x =
      sum_to_cong K (λ j b. ap (λ (n : ℕ). x j *ℤ pos n) (times j b) ∙ sym (*ℤ-assoc (x j) (pos (price p j)) (pos m)))
      ∙ sum_to_times K (λ j. x j *ℤ pos (price p j)) (pos m)

  mcc-times : (n : ℕ) → mcc F q n ≡ mcc F p n *ℤ pos m
  unfolding mcc congestion
  mcc-times n = ap neg_ℤ (weighed_times (factor F n)) ∙ sym (neg_* (sum_to K (λ j. factor F n j *ℤ pos (price p j))) (pos m))

  amount-times : (c : Contract) → amount F q c ≡ amount F p c *ℤ pos m
  unfolding amount
  amount-times c =
      ap₂ (λ (a b : ℤ). counted c.kind ((a -ℤ b) *ℤ pos c.quantity.0)) (mcc-times c.sink) (mcc-times c.source)
      ∙ ap (counted c.kind) (spread-times (mcc F p c.sink) (mcc F p c.source) c.quantity.0 m)
      ∙ counted-product c.kind ((mcc F p c.sink -ℤ mcc F p c.source) *ℤ pos c.quantity.0) m

  pub shortfall-times : (process : Process) (cs : List Contract) → shortfall g process cs q ≡ shortfall g process cs p *ℤ pos m
  unfolding shortfall net_payment exact_total rent
  shortfall-times process cs =
      ap₂ ◌-ℤ◌ (sum_over-cong cs amount-times ∙ sum_over-times cs (amount F p) (pos m)) (weighed_times (λ k. pos (released g.limits process k)))
      ∙ minus-times (sum_over_of cs (amount F p)) (sum_to K (λ k. pos (released g.limits process k) *ℤ pos (price p k))) m

-- ---- the highest price on the constraints chosen

module _ (k : ℕ) (chosen : ℕ → Bool) where
  pub highest_at : (j : ℕ) → j < k → price (highest_where k chosen) j ≡ cond (chosen j) max_price 0
  unfolding highest_where
  highest_at j b = get_d_list_to k (λ (i : ℕ). cond (chosen i) max_price 0) j 0 b

  pub highest_list : PriceList k (highest_where k chosen)
  unfolding highest_where
  highest_list =
      record {
        one_each = length-list_to k (λ (i : ℕ). cond (chosen i) max_price 0);
        capped = λ j b. rw (get_d_list_to k (λ (i : ℕ). cond (chosen i) max_price 0) j 0 b) (small (chosen j));
      }
    where
      small : (c : Bool) → cond c max_price 0 ≤ max_price
      small true = omega arith
      small false = omega arith

-- on none: nothing is lost
pub none-shortfall : (g : Grid) (process : Process) (cs : List Contract) (chosen : ℕ → Bool) → ((j : ℕ) → j < g.factors.constraints → chosen j ≡ false)
    → shortfall g process cs (highest_where g.factors.constraints chosen) ≡ pos 0
none-shortfall g process cs chosen none = shortfall-times g p p 0 zero_times process cs ∙ *ℤ-zero (shortfall g process cs p)
  where
    p : List ℕ
    p = highest_where g.factors.constraints chosen

    zero_times : (j : ℕ) → j < g.factors.constraints → price p j ≡ price p j * 0
    zero_times j b = highest_at g.factors.constraints chosen j b ∙ ap (λ (c : Bool). cond c max_price 0) (none j b) ∙ sym (mul-zero (price p j))

-- on one alone: the excess there at the highest price
module _ (g : Grid) (k : ℕ) (h : k < g.factors.constraints) (chosen : ℕ → Bool) (at : chosen k ≡ true)
    (other : (j : ℕ) → j < g.factors.constraints → j ≢ k → chosen j ≡ false) where
  only_times : (j : ℕ) → j < g.factors.constraints
      → price (highest_where g.factors.constraints chosen) j ≡ price (one_cent g.factors.constraints k) j * max_price
  unfolding one_cent
  only_times j b = highest_at g.factors.constraints chosen j b ∙ elim (ℕ_discrete j k) [ yes e ↦ same e | no ne ↦ rest ne ]
    where
      K : ℕ
      K = g.factors.constraints

      same : j ≡ k → cond (chosen j) max_price 0 ≡ price (one_cent K k) j * max_price
      same e = rw (e, at, get_or-set_same {A = ℕ} (replicate K 0) k 1 0 (rw length-replicate h)) refl

      rest : j ≢ k → cond (chosen j) max_price 0 ≡ price (one_cent K k) j * max_price
      rest ne = rw (other j b ne, get_or-set_other {A = ℕ} (replicate K 0) k j 1 0 ne, get_or-replicate {A = ℕ} K j 0 0 b) refl

  pub single_shortfall : (process : Process) (cs : List Contract)
      → shortfall g process cs (highest_where g.factors.constraints chosen) ≡ excess g process cs k *ℤ pos max_price
  single_shortfall process cs =
      shortfall-times g (one_cent g.factors.constraints k) (highest_where g.factors.constraints chosen) max_price only_times process cs
      ∙ ap (λ (z : ℤ). z *ℤ pos max_price) (only_shortfall g process cs k h)
