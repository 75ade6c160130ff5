-- No figure looks at a holder.
use mathlib.Core.Path.{◌≡◌, refl, ap, ap₂, ◌∙◌}
use mathlib.Core.Bool.{Bool, true, false, cond}
use mathlib.Core.List.{List, [], ◌∷◌, map}
use Prim.Native.Nat.{ℕ}
use lib.IntN.{ℤ, ◌+ℤ◌}
use Rattle.integers.specs.Sums.{sum_over_of}
use Rattle.tariff.specs.declared.contracts.Contract.{Contract}
use Rattle.tariff.specs.declared.contracts.Period.{Period}
use Rattle.tariff.specs.Units.{Factors}
use Rattle.tariff.specs.ContractRules.{same_period, of_period}
use Rattle.tariff.specs.Feasibility.{flow, total_flow}
use Rattle.tariff.specs.Settlement.{amount, spread_at, priced_at, priced_set_of, exact_total, cents}
use Rattle.test_rules.proofs.Figures.{same_test}
use Rattle.hour_rules.specs.SettleHour.{cents_of, priced_of, cents_sum, hour_total}
use Rattle.view_rules.specs.Views.{anonymous}
use Rattle.view_figures.specs.Theorems.{SameMarketFigures}

-- ---- sums and lists of figures that do not look at the holder

-- the period's contracts first, or the holders cleared first
of_period-anonymous : (t : Period) (cs : List Contract) → of_period t (map anonymous cs) ≡ map anonymous (of_period t cs)
unfolding of_period anonymous
of_period-anonymous t [] = refl
of_period-anonymous t (c ∷ cs) = by (same_period c.period t) (of_period-anonymous t cs)
  where
    by : (b : Bool) → of_period t (map anonymous cs) ≡ map anonymous (of_period t cs)
        → cond b (anonymous c ∷ of_period t (map anonymous cs)) (of_period t (map anonymous cs)) ≡ map anonymous (cond b (c ∷ of_period t cs) (of_period t cs))
    by true e = ap (λ (l : List Contract). anonymous c ∷ l) e
    by false e = e

module _ {A : Type 0} (v : Contract → A) (same : (c : Contract) → v (anonymous c) ≡ v c) where
  map-anonymous : (cs : List Contract) → map v (map anonymous cs) ≡ map v cs
  map-anonymous [] = refl
  map-anonymous (c ∷ cs) = λ i. same c i ∷ map-anonymous cs i

module _ (v : Contract → ℤ) (same : (c : Contract) → v (anonymous c) ≡ v c) where
  sum-anonymous : (cs : List Contract) → sum_over_of (map anonymous cs) v ≡ sum_over_of cs v
  unfolding sum_over_of
  sum-anonymous [] = refl
  sum-anonymous (c ∷ cs) = ap₂ ◌+ℤ◌ (same c) (sum-anonymous cs)

  period-sum : (t : Period) (cs : List Contract) → sum_over_of (of_period t (map anonymous cs)) v ≡ sum_over_of (of_period t cs) v
  period-sum t cs = ap (λ (l : List Contract). sum_over_of l v) (of_period-anonymous t cs) ∙ sum-anonymous (of_period t cs)

-- ---- each figure of one contract

flow-anonymous : (f : Factors) (k : ℕ) (c : Contract) → flow f (anonymous c) k ≡ flow f c k
unfolding flow anonymous
flow-anonymous f k c = refl

amount-anonymous : (f : Factors) (p : List ℕ) (c : Contract) → amount f p (anonymous c) ≡ amount f p c
unfolding amount anonymous
amount-anonymous f p c = refl

cents-anonymous : (f : Factors) (p : List ℕ) (t : Period) (c : Contract) → cents_of f p t (anonymous c) ≡ cents_of f p t c
unfolding cents_of amount anonymous
cents-anonymous f p t c = refl

priced-anonymous : (f : Factors) (p : List ℕ) (t : Period) (c : Contract) → priced_of f p t (anonymous c) ≡ priced_of f p t c
unfolding priced_of priced_set_of priced_at spread_at anonymous
priced-anonymous f p t c = refl

-- ---- flows

module _ (t : Period) (cs : List Contract) where
  flows-same : (f : Factors) (k : ℕ) → total_flow f (of_period t (map anonymous cs)) k ≡ total_flow f (of_period t cs) k
  unfolding total_flow
  flows-same f k = period-sum (λ c. flow f c k) (flow-anonymous f k) t cs

pub figures-same : (cs : List Contract) → SameMarketFigures (map anonymous cs) cs
unfolding cents_sum hour_total exact_total
figures-same cs =
    record {
      same_flows = λ f t k. flows-same t cs f k;
      same_verdict = λ g process t. same_test g process _ _ (flows-same t cs g.factors);
      same_cents = λ f p t. map-anonymous (cents_of f p t) (cents-anonymous f p t) cs;
      same_sets = λ f p t. map-anonymous (priced_of f p t) (priced-anonymous f p t) cs;
      same_sum = λ f p t. period-sum (λ c. cents (amount f p c)) (λ c. ap cents (amount-anonymous f p c)) t cs;
      same_total = λ f p t. period-sum (amount f p) (amount-anonymous f p) t cs;
    }
