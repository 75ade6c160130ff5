-- What the inner functions say: the prices, and what they cost.
use Rattle.std.specs.Prelude.{◌≡◌, List, ℕ, ◌<◌, ℤ}
use Rattle.lists.specs.Lent.{overwrite}
use Rattle.tariff.specs.declared.contracts.Contract.{Contract}
use Rattle.tariff.specs.declared.processes.Process.{Process}
use Rattle.tariff.specs.Units.{Grid}
use Rattle.tariff.specs.ContractRules.{of_period}
use Rattle.tariff.specs.Feasibility.{excess}
use Rattle.tariff.specs.Shortfall.{shortfall}
use Rattle.layouts.specs.BookFile.{book_in}
use Rattle.test_terms.specs.declared.tested.Tested.{Tested}
use Rattle.test_excesses.specs.Inner.{cell_at}
use Rattle.exposure_rules.specs.Exposure.{largest_of, set_prices, worst_set, either_prices, exposure_prices_of, least_exposure, most_exposure}
use Rattle.exposure_figures.specs.declared.Exact.{Exact}
use Rattle.exposure_figures.specs.Inner.{Exactly}
use Rattle.exposure_prices.specs.declared.Best.{Best}
use Rattle.exposure_bounds.specs.declared.Exposure.{Exposure}

-- the contracts tested
abbrev pub contracts_by : Tested → List Contract
contracts_by t = of_period t.period (book_in t.book.now)

-- cells that are the excesses
pub record AreExcesses (g : Grid) (process : Process) (cs : List Contract) (cells : List ℤ) : Type 0 where
  pub each : (j : ℕ) → j < g.factors.constraints → cell_at cells j ≡ excess g process cs j

-- of the first m sets of overloaded constraints the one that costs the most, the lowest such, and what it costs
pub record BestSet (g : Grid) (process : Process) (cs : List Contract) (m : ℕ) (r : Best) : Type 0 where
  pub set_is : r.set ≡ largest_of m (λ (s : ℕ). shortfall g process cs (set_prices g process cs s))
  pub cost_is : Exactly (shortfall g process cs (set_prices g process cs r.set)) r.cost

-- the place for the prices at entry and at exit, and what those at exit cost: where few are overloaded, and where many are
pub record WorstPrices (g : Grid) (process : Process) (cs : List Contract) (entry exit : List ℕ) (r : Exact) : Type 0 where
  pub prices : exit ≡ overwrite (set_prices g process cs (worst_set g process cs)) entry
  pub worst : Exactly (shortfall g process cs (set_prices g process cs (worst_set g process cs))) r

pub record BetterPrices (g : Grid) (process : Process) (cs : List Contract) (entry exit : List ℕ) (r : Exact) : Type 0 where
  pub prices : exit ≡ overwrite (either_prices g process cs) entry
  pub least : Exactly (shortfall g process cs (either_prices g process cs)) r

-- with what no prices exceed
pub record Exposed (g : Grid) (process : Process) (cs : List Contract) (entry exit : List ℕ) (r : Exposure) : Type 0 where
  pub prices : exit ≡ overwrite (exposure_prices_of g process cs) entry
  pub least : Exactly (least_exposure g process cs) r.least
  pub most : Exactly (most_exposure g process cs) r.most
