-- What inner functions and proofs say, and no promise does: figures within their ranges, and the largest figures that come of them.
use Rattle.std.specs.Prelude.{ℕ, ◌*◌, ◌/◌, ◌≤◌, ◌<◌, List, nat_abs}
use Rattle.tariff.specs.Units.{Factors, factor, limit, price, max_quantity, max_factor, max_limit, max_price, max_constraints, hub_weight, per_cent}

pub record FactorsInRange (f : Factors) : Type 0 where
  pub factor-sized : (n k : ℕ) → n < f.nodes → k < f.constraints → nat_abs (factor f n k) ≤ max_factor

-- of k constraints
pub record LimitsInRange (k : ℕ) (ls : List ℕ) : Type 0 where
  pub limit-sized : (j : ℕ) → j < k → limit ls j ≤ max_limit

pub record PricesInRange (k : ℕ) (ps : List ℕ) : Type 0 where
  pub price-sized : (j : ℕ) → j < k → price ps j ≤ max_price

-- a released limit, of 100 percent
abbrev pub max_released : ℕ
max_released = max_limit * 100 * 1000

-- an MCC, the difference of two, and an amount: "one product is at most 6.4 × 10^18 in size"
abbrev pub max_mcc : ℕ
max_mcc = max_factor * max_price * max_constraints

abbrev pub max_spread : ℕ
max_spread = 2 * max_mcc

abbrev pub max_amount : ℕ
max_amount = max_spread * max_quantity

-- an amount in cents
abbrev pub max_cents : ℕ
max_cents = max_amount / per_cent

-- a hub's weighted sum of MCCs: its weights are together at most 100,000
abbrev pub max_weighted : ℕ
max_weighted = hub_weight * max_mcc
