-- Document 01, "The rules": the simultaneous feasibility test. `cs` are the contracts of the period that is tested.
use Rattle.std.specs.Prelude.{Bool, List, ℕ, ◌*◌, ◌<◌, ℤ, pos, ◌-ℤ◌, ◌*ℤ◌, ◌≤ℤ◌}
use Rattle.std.specs.Int.Signed.{lt_z}
use Rattle.lists.specs.Sets.{set_of, count_of, lowest_of}
use Rattle.integers.specs.Sums.{sum_over_of}
use Rattle.tariff.specs.declared.contracts.Contract.{Contract}
use Rattle.tariff.specs.declared.processes.Process.{Process}
use Rattle.tariff.specs.Units.{Factors, factor, Grid, limit}
use Rattle.tariff.specs.ContractRules.{counted}
use Rattle.tariff.specs.Processes.{percent}

module _ (f : Factors) where
  -- the flow of a contract on constraint k as it counts, in 10^-8 MW: (factor of source − factor of sink) × quantity
  unfoldable pub flow : Contract → ℕ → ℤ
  flow c k = counted c.kind ((factor f c.source k -ℤ factor f c.sink k) *ℤ pos c.quantity.0)

  unfoldable pub total_flow : List Contract → ℕ → ℤ
  total_flow cs k = sum_over_of cs (λ c. flow c k)

-- the released limit of constraint k in flow units: limit × percent × 1,000
unfoldable pub released : List ℕ → Process → ℕ → ℕ
released limits process k = limit limits k * percent process * 1000

module _ (g : Grid) (process : Process) (cs : List Contract) where
  -- "a book passes when no constraint's flow exceeds its released limit"
  pub record Passes : Type 0 where
    pub within : (k : ℕ) → k < g.factors.constraints → total_flow g.factors cs k ≤ℤ pos (released g.limits process k)

  -- the excess at constraint k, in 10^-8 MW
  unfoldable pub excess : ℕ → ℤ
  excess k = total_flow g.factors cs k -ℤ pos (released g.limits process k)

  unfoldable pub overloaded : ℕ → Bool
  overloaded k = lt_z (pos (released g.limits process k)) (total_flow g.factors cs k)

  -- the set of overloaded constraints, how many there are, and the lowest of them
  unfoldable pub overload_set : ℕ
  overload_set = set_of g.factors.constraints overloaded

  unfoldable pub overload_count : ℕ
  overload_count = count_of g.factors.constraints overloaded

  unfoldable pub lowest_overload : ℕ
  lowest_overload = lowest_of g.factors.constraints overloaded
