-- What the canonical rows keep of a book: every flow, so the test's whole answer, and the exact total at every price list.
use mathlib.Core.Path.{◌≡◌, refl, sym, ap, ◌∙◌}
use mathlib.Core.Bool.{Bool, true, false, cond}
use mathlib.Core.List.{List, [], ◌∷◌}
use Prim.Native.Nat.{ℕ, ◌+◌}
use lib.IntN.{ℤ, pos, ◌+ℤ◌, ◌-ℤ◌, *ℤ-zero, +ℤ_idl}
use Rattle.lists.specs.Lists.{Each}
use Rattle.integers.specs.Sums.{sum_over_of}
use Rattle.tariff.specs.declared.contracts.Contract.{Contract}
use Rattle.tariff.specs.declared.contracts.Period.{Period}
use Rattle.tariff.specs.declared.processes.Process.{Process}
use Rattle.tariff.specs.Units.{Factors, Grid}
use Rattle.tariff.specs.ContractRules.{counted, same_period, of_period}
use Rattle.tariff.specs.Feasibility.{flow, total_flow}
use Rattle.tariff.specs.Settlement.{mcc, amount, exact_total}
use Rattle.tariff.specs.Shortfall.{net_payment}
use Rattle.tariff.proofs.WorstNumber.{shortfall-by, worst-by}
use Rattle.test_flow_laws.specs.Quantities.{with_quantity}
use Rattle.test_flow_laws.proofs.Additive.{counted-product, counted-plus, flow-plus, flow-times}
use Rattle.canonical_rules.specs.Canonical.{canonical}
use Rattle.canonical_rules.specs.Theorems.{FiveFits, SamePayments}
use Rattle.canonical_rules.proofs.Totals.{sum-canonical}

-- ---- sums over the contracts of one period

module _ (t : Period) (h : Contract → ℤ) where
  abbrev within : Contract → ℤ
  within c = cond (same_period c.period t) (h c) (pos 0)

  period-sum : (cs : List Contract) → sum_over_of (of_period t cs) h ≡ sum_over_of cs within
  unfolding sum_over_of of_period
  period-sum [] = refl
  period-sum (c ∷ cs) = by (period-sum cs) (same_period c.period t)
    where
      by : sum_over_of (of_period t cs) h ≡ sum_over_of cs within → (b : Bool) → sum_over_of (cond b (c ∷ of_period t cs) (of_period t cs)) h ≡ cond b (h c) (pos 0) +ℤ sum_over_of cs within
      by more true = ap (λ (z : ℤ). h c +ℤ z) more
      by more false = more ∙ sym (+ℤ_idl (sum_over_of cs within))

  module _ (plus : (c : Contract) (a b : ℕ) → h (with_quantity (a + b) c) ≡ h (with_quantity a c) +ℤ h (with_quantity b c)) (nothing : (c : Contract) → h (with_quantity 0 c) ≡ pos 0) where
    within-plus : (c : Contract) (a b : ℕ) → within (with_quantity (a + b) c) ≡ within (with_quantity a c) +ℤ within (with_quantity b c)
    within-plus c a b = by (same_period c.period t)
      where
        by : (s : Bool) → cond s (h (with_quantity (a + b) c)) (pos 0) ≡ cond s (h (with_quantity a c)) (pos 0) +ℤ cond s (h (with_quantity b c)) (pos 0)
        by true = plus c a b
        by false = refl

    within-nothing : (c : Contract) → within (with_quantity 0 c) ≡ pos 0
    within-nothing c = by (same_period c.period t)
      where
        by : (s : Bool) → cond s (h (with_quantity 0 c)) (pos 0) ≡ pos 0
        by true = nothing c
        by false = refl

    period-canonical : (cs : List Contract) → Each FiveFits cs → sum_over_of (of_period t (canonical cs)) h ≡ sum_over_of (of_period t cs) h
    period-canonical cs f = period-sum (canonical cs) ∙ sum-canonical within within-plus within-nothing cs f ∙ sym (period-sum cs)

-- ---- flows and amounts

module _ (f : Factors) (t : Period) (cs : List Contract) (fits : Each FiveFits cs) where
  pub flows-kept : (k : ℕ) → total_flow f (of_period t (canonical cs)) k ≡ total_flow f (of_period t cs) k
  unfolding total_flow
  flows-kept k = period-canonical t (λ c. flow f c k) (λ c a b. flow-plus f c a b k) (λ c. flow-times f c 0 k ∙ *ℤ-zero (flow f (with_quantity 1 c) k)) cs fits

  pub total_kept : (p : List ℕ) → exact_total f p (of_period t (canonical cs)) ≡ exact_total f p (of_period t cs)
  unfolding exact_total amount
  total_kept p =
      period-canonical t (amount f p) (λ c a b. counted-plus c.kind (mcc f p c.sink -ℤ mcc f p c.source) a b)
      (λ c. counted-product c.kind (mcc f p c.sink -ℤ mcc f p c.source) 0 ∙ *ℤ-zero (counted c.kind (mcc f p c.sink -ℤ mcc f p c.source))) cs fits

-- ---- what is made of the exact totals

module _ (g : Grid) (process : Process) where
  pub same_payments : (xs ys : List Contract) → ((p : List ℕ) → exact_total g.factors p xs ≡ exact_total g.factors p ys) → SamePayments g process xs ys
  unfolding net_payment
  same_payments xs ys e =
      record {
        exact-total = e;
        net-payment = net;
        shortfalls = shortfall-by g process xs ys e;
        worst = worst-by g process xs ys e;
      }
    where
      net : (p : List ℕ) → net_payment g.factors xs p ≡ net_payment g.factors ys p
      net p = e p
