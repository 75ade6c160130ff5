-- What inner functions say of flows held in cells.
use Rattle.std.specs.Prelude.{◌≡◌, Bool, List, ℕ, ◌*◌, ◌<◌, ltb, length, get_or, ℤ, pos, nat_abs}
use Rattle.tariff.specs.Units.{max_constraints, max_flow}
use Rattle.test_rules.specs.declared.Flows.{Flows}

-- a flow larger than so many contracts can make
abbrev pub beyond : ℕ → ℤ → Bool
beyond count z = ltb (max_flow * count) (nat_abs z)

-- the first k cells in an array
pub record SameFlows (k : ℕ) (cells : List ℤ) (held : Flows) : Type 0 where
  pub all : length held.flows ≡ max_constraints
  pub flows-are : (j : ℕ) → j < k → get_or held.flows j (pos 0) ≡ get_or cells j (pos 0)
