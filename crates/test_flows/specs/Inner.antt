-- What adding a contract's flow asks, and what it gives, by the rows of factors of its ends.
use Rattle.std.specs.Prelude.{◌≡◌, List, ℕ, ◌≤◌, ◌<◌, length, get_or, ℤ, pos, nat_abs, ◌+ℤ◌, ◌-ℤ◌, ◌*ℤ◌}
use Rattle.tariff.specs.declared.contracts.Contract.{Contract}
use Rattle.tariff.specs.Units.{max_factor, max_quantity}
use Rattle.tariff.specs.ContractRules.{counted}

-- a contract and the rows of factors of its ends, in range
pub record Ends (source sink : List ℤ) (c : Contract) : Type 0 where
  pub long : length sink ≡ length source
  pub source-sized : (j : ℕ) → j < length source → nat_abs (get_or source j (pos 0)) ≤ max_factor
  pub sink-sized : (j : ℕ) → j < length source → nat_abs (get_or sink j (pos 0)) ≤ max_factor
  pub quantity-sized : c.quantity.0 ≤ max_quantity

-- the flow of a contract on constraint j, as it counts
abbrev pub flow_by : List ℤ → List ℤ → Contract → ℕ → ℤ
flow_by source sink c j = counted c.kind ((get_or source j (pos 0) -ℤ get_or sink j (pos 0)) *ℤ pos c.quantity.0)

-- flows on the rows' constraints after a contract's were added
pub record AddsRows (source sink : List ℤ) (c : Contract) (old new : List ℤ) : Type 0 where
  pub length-kept : length new ≡ length old
  pub flows-added : (j : ℕ) → j < length source → get_or new j (pos 0) ≡ get_or old j (pos 0) +ℤ flow_by source sink c j
