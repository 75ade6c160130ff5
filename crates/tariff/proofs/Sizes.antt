-- Every machine quantity fits where it is kept: bounds of each figure of the rules, for figures within their ranges.
use mathlib.Core.Bool.{Bool, true, false, cond}
use mathlib.Core.List.{List, [], ◌∷◌}
use Prim.Native.Nat.{ℕ, suc, ◌+◌, ◌*◌, ◌≤◌, ◌<◌}
use native.Mathlib.Nat.{mul-le-mul, le_trans}
use native.Mathlib.Omega.{arith}
use lib.ListN.{length}
use lib.IntN.{ℤ, pos, negsuc, nat_abs, ◌-ℤ◌, ◌*ℤ◌}
use Rattle.integers.proofs.Sizes.{nat_abs_sub, nat_abs_neg, nat_abs_times, nat_abs_sum_to, nat_abs_sum_over}
use Rattle.lists.specs.Lists.{Each}
use Rattle.integers.proofs.Division.{nat_abs_round_away}
use Rattle.tariff.specs.declared.contracts.Kind.{Kind}
use Rattle.tariff.specs.declared.contracts.Kind.TheVariants.{Obligation, Option}
use Rattle.tariff.specs.declared.contracts.Contract.{Contract}
use Rattle.tariff.specs.declared.contracts.Period.{Period}
use Rattle.tariff.specs.declared.processes.Process.{Process}
use Rattle.tariff.specs.declared.processes.Process.TheVariants.{Annual, TierLt, Monthly}
use Rattle.tariff.specs.Units.{Factors, Grid, factor, price, max_factor, max_price, max_constraints, per_cent, max_flow}
use Rattle.tariff.specs.ContractRules.{counted, same_period, of_period, InRange}
use Rattle.tariff.specs.Inner.{FactorsInRange, LimitsInRange, PricesInRange, max_released, max_mcc, max_spread, max_amount}
use Rattle.tariff.specs.Processes.{percent}
use Rattle.tariff.specs.Settlement.{congestion, mcc, amount, cents}
use Rattle.tariff.proofs.Kept.{spread-small}
use Rattle.tariff.specs.Feasibility.{flow, total_flow, released, excess}

pub counted-sized : (d : Kind) (x : ℤ) → nat_abs (counted d x) ≤ nat_abs x
counted-sized Obligation x = omega arith
counted-sized Option (pos n) = omega arith
counted-sized Option (negsuc n) = omega arith

-- a product by a quantity, as it counts
pub counted-times : (d : Kind) (x : ℤ) (q : ℕ) {A B : ℕ} → nat_abs x ≤ A → q ≤ B → nat_abs (counted d (x *ℤ pos q)) ≤ A * B
counted-times d x q hx hq = le_trans (counted-sized d (x *ℤ pos q)) (nat_abs_times x (pos q) hx hq)

-- ---- settlement

module _ (f : Factors) (p : List ℕ) (few : f.constraints ≤ max_constraints) (fs : FactorsInRange f) (ps : PricesInRange f.constraints p) where
  pub product_sized : (n k : ℕ) → n < f.nodes → k < f.constraints → nat_abs (factor f n k *ℤ pos (price p k)) ≤ max_factor * max_price
  product_sized n k hn hk = nat_abs_times (factor f n k) (pos (price p k)) (fs.factor-sized n k hn hk) (ps.price-sized k hk)

  pub congestion-sized : (n k : ℕ) → n < f.nodes → k ≤ f.constraints → nat_abs (congestion f p n k) ≤ max_factor * max_price * k
  unfolding congestion
  congestion-sized n k hn hk = nat_abs_sum_to k (max_factor * max_price) (λ j. factor f n j *ℤ pos (price p j)) (λ j b. product_sized n j hn (omega arith))

  pub mcc-sized : (n : ℕ) → n < f.nodes → nat_abs (mcc f p n) ≤ max_mcc
  unfolding mcc
  mcc-sized n hn = rw (nat_abs_neg (congestion f p n f.constraints)) (omega (arith, congestion-sized n f.constraints hn (omega arith)))

  pub spread-sized : (m n : ℕ) → m < f.nodes → n < f.nodes → nat_abs (mcc f p m -ℤ mcc f p n) ≤ max_spread
  spread-sized m n hm hn = omega (arith, nat_abs_sub (mcc f p m) (mcc f p n), mcc-sized m hm, mcc-sized n hn)

  pub amount-sized : (c : Contract) → InRange f.nodes c → nat_abs (amount f p c) ≤ max_amount
  unfolding amount
  amount-sized c h = search (counted-times, spread-sized, h.sink-below, h.source-below, h.quantity-sized)

-- a quotient by 10^8 of a number of size at most B × 10^8, rounded to the nearest, has size at most B
pub cents-sized : (a : ℤ) (B : ℕ) → nat_abs a ≤ B * per_cent → nat_abs (cents a) ≤ B
cents-sized a B h = rw (nat_abs_round_away a per_cent) (omega arith)

-- ---- the test

module _ (f : Factors) (fs : FactorsInRange f) where
  pub flow-sized : (c : Contract) (k : ℕ) → InRange f.nodes c → k < f.constraints → nat_abs (flow f c k) ≤ max_flow
  unfolding flow
  flow-sized c k h hk = search (counted-times, spread-small, fs.factor-sized, h.source-below, h.sink-below, h.quantity-sized, hk)

  flows-sized : (k : ℕ) → k < f.constraints → (cs : List Contract) → Each (InRange f.nodes) cs → Each (λ c. nat_abs (flow f c k) ≤ max_flow) cs
  flows-sized k hk [] h = tt
  flows-sized k hk (c ∷ cs) h = (flow-sized c k h.0 hk, flows-sized k hk cs h.1)

  pub total_flow-sized : (cs : List Contract) (k : ℕ) → Each (InRange f.nodes) cs → k < f.constraints → nat_abs (total_flow f cs k) ≤ max_flow * length cs
  unfolding total_flow
  total_flow-sized cs k h hk = nat_abs_sum_over max_flow (λ c. flow f c k) cs (flows-sized k hk cs h)

pub percent-sized : (process : Process) → percent process ≤ 100
percent-sized Annual = omega arith
percent-sized TierLt = omega arith
percent-sized Monthly = omega arith

pub released-sized : (n : ℕ) (limits : List ℕ) → LimitsInRange n limits → (process : Process) (k : ℕ) → k < n → released limits process k ≤ max_released
unfolding released
released-sized n limits ls process k hk = omega (arith, mul-le-mul (ls.limit-sized k hk) (percent-sized process))

pub excess-sized : (g : Grid) → FactorsInRange g.factors → LimitsInRange g.factors.constraints g.limits
    → (process : Process) (cs : List Contract) (k : ℕ) → Each (InRange g.factors.nodes) cs → k < g.factors.constraints
    → nat_abs (excess g process cs k) ≤ max_flow * length cs + max_released
unfolding excess
excess-sized g fs ls process cs k h hk =
    omega (
      arith,
      nat_abs_sub (total_flow g.factors cs k) (pos (released g.limits process k)),
      total_flow-sized g.factors fs cs k h hk,
      released-sized g.factors.constraints g.limits ls process k hk,
    )

-- a period's contracts are no more than the book's, and in range where those are
pub of_period-in_range : (n : ℕ) (t : Period) (cs : List Contract) → Each (InRange n) cs → Each (InRange n) (of_period t cs) × (length (of_period t cs) ≤ length cs)
unfolding of_period
of_period-in_range n t [] h = (tt, omega arith)
of_period-in_range n t (c ∷ cs) h = by (same_period c.period t) (of_period-in_range n t cs h.1)
  where
    by : (b : Bool) → Each (InRange n) (of_period t cs) × (length (of_period t cs) ≤ length cs)
        → Each (InRange n) (cond b (c ∷ of_period t cs) (of_period t cs)) × (length (cond b (c ∷ of_period t cs) (of_period t cs)) ≤ suc (length cs))
    by true r = ((h.0, r.0), omega arith)
    by false r = (r.0, omega arith)
