-- Exposure: what a book can cost, the worst shortfall of document 01; between two figures where more than ten constraints are overloaded. Beyond the papers.
-- `cs` are the contracts of the period that is tested.
use Rattle.std.specs.Prelude.{Bool, cond, ◌&&◌, List, ℕ, zero, suc, ◌/◌, ◌%◌, ◌^◌, eqb, leb, ℤ, pos, ◌*ℤ◌}
use Rattle.std.specs.Int.Signed.{lt_z}
use Rattle.integers.specs.Sums.{max0, sum_to}
use Rattle.lists.specs.Lists.{list_to}
use Rattle.lists.specs.Sets.{count_of}
use Rattle.tariff.specs.declared.contracts.Contract.{Contract}
use Rattle.tariff.specs.declared.processes.Process.{Process}
use Rattle.tariff.specs.Units.{Grid, max_price}
use Rattle.tariff.specs.Feasibility.{excess, overloaded, overload_count}
use Rattle.tariff.specs.Shortfall.{shortfall}

-- the highest price on the constraints chosen, of k, and 0 on the others
unfoldable pub highest_where : ℕ → (ℕ → Bool) → List ℕ
highest_where k chosen = list_to k (λ (j : ℕ). cond (chosen j) max_price 0)

-- where f is largest among the numbers below n, the lowest such
unfoldable pub largest_of : ℕ → (ℕ → ℤ) → ℕ
largest_of zero f = 0
largest_of (suc n) f = cond (lt_z (f (largest_of n f)) (f n)) n (largest_of n f)

-- of how many overloaded constraints every set is tried
abbrev pub few_overloads : ℕ
few_overloads = 10

module _ (g : Grid) (process : Process) (cs : List Contract) where
  -- ---- few overloaded: every set of them, at the highest price

  -- constraint k is in set m of the overloaded constraints: m has the bit of its place among them. So the sets stand in the order of the numbers with bit k for
  -- constraint k (`lowest-of_equals`).
  unfoldable pub in_set : ℕ → ℕ → Bool
  in_set m k = overloaded g process cs k && eqb (m / 2 ^ count_of k (overloaded g process cs) % 2) 1

  unfoldable pub set_prices : ℕ → List ℕ
  set_prices m = highest_where g.factors.constraints (in_set m)

  -- the set that costs the most, the lowest such
  unfoldable pub worst_set : ℕ
  worst_set = largest_of (2 ^ overload_count g process cs) (λ (m : ℕ). shortfall g process cs (set_prices m))

  -- ---- many: two lists, and what no list exceeds

  -- the constraint that exceeds its released limit by the most, the lowest such
  unfoldable pub largest_excess : ℕ
  largest_excess = largest_of g.factors.constraints (excess g process cs)

  -- the highest price on every overloaded constraint, and on the one of them with the largest excess alone
  unfoldable pub all_prices : List ℕ
  all_prices = highest_where g.factors.constraints (overloaded g process cs)

  unfoldable pub alone_prices_of : List ℕ
  alone_prices_of = highest_where g.factors.constraints (λ (k : ℕ). overloaded g process cs k && eqb k largest_excess)

  -- of the two the list of the larger shortfall, the first where they are equal
  unfoldable pub either_prices : List ℕ
  either_prices = cond (lt_z (shortfall g process cs all_prices) (shortfall g process cs alone_prices_of)) alone_prices_of all_prices

  -- every excess above 0 at the highest price
  unfoldable pub all_excesses : ℤ
  all_excesses = sum_to g.factors.constraints (λ (k : ℕ). max0 (excess g process cs k)) *ℤ pos max_price

  -- ---- the prices drawn, the least that the book can cost, and the most: one figure where few are overloaded

  abbrev pub few : Bool
  few = leb (overload_count g process cs) few_overloads

  unfoldable pub exposure_prices_of : List ℕ
  exposure_prices_of = cond few (set_prices worst_set) either_prices

  unfoldable pub least_exposure : ℤ
  least_exposure = shortfall g process cs exposure_prices_of

  unfoldable pub most_exposure : ℤ
  most_exposure = cond few least_exposure all_excesses
