-- How many constraints priced a contract.
use mathlib.Core.Bool.{Bool, true, false, cond}
use mathlib.Core.List.{List}
use Prim.Native.Nat.{ℕ, ◌≤◌}
use native.Mathlib.Omega.{arith}
use lib.Count.{ones}
use Rattle.lists.proofs.Sets.{count-le}
use Rattle.tariff.specs.declared.contracts.Contract.{Contract}
use Rattle.tariff.specs.declared.contracts.Period.{Period}
use Rattle.tariff.specs.Units.{Factors, max_constraints}
use Rattle.tariff.specs.ContractRules.{same_period}
use Rattle.tariff.specs.Settlement.{priced_at, priced_set_of, priced_count}
use Rattle.tariff.proofs.Theorems.{priced-size_is_ones}
use Rattle.hour_rules.specs.SettleHour.{priced_of}

pub priced-few : (f : Factors) (p : List ℕ) (t : Period) (c : Contract) → f.constraints ≤ max_constraints → ones (priced_of f p t c) ≤ max_constraints
unfolding priced_of priced_count ones
priced-few f p t c few = by (same_period c.period t)
  where
    by : (b : Bool) → ones (cond b (priced_set_of f p c) 0) ≤ max_constraints
    by true = omega (arith, priced-size_is_ones f p c, count-le f.constraints (priced_at f p c))
    by false = omega arith
