-- What the inner functions say: the checks of the tables, and the three figures of a grid, a process, contracts and prices.
use Rattle.std.specs.Prelude.{List, [], ◌∷◌, ℕ, ◌*◌, length, take, ℤ}
use Rattle.tariff.specs.declared.contracts.Contract.{Contract}
use Rattle.tariff.specs.declared.processes.Process.{Process}
use Rattle.tariff.specs.Units.{Grid}
use Rattle.tariff.specs.Refusals.{Check}
use Rattle.tariff.specs.Checks.{node_count, constraint_count, process_number, period_number, short_table, limit_range, factor_range, price_range}
use Rattle.tariff.specs.Shortfall.{net_payment, rent, shortfall}
use Rattle.exposure_figures.specs.Inner.{Exactly}
use Rattle.exposure_shortfall.specs.declared.Shortfall.{Shortfall}

-- 9 for each table, 6, 7, 15; and before them 2, 3, 16, 17
abbrev pub cell_checks : ℕ → ℕ → List ℕ → List ℤ → List ℕ → List Check
cell_checks n k limits factors prices =
    short_table (length limits) k
    ∷ short_table (length factors) (n * k)
    ∷ short_table (length prices) k
    ∷ limit_range (take k limits)
    ∷ factor_range (take (n * k) factors)
    ∷ price_range (take k prices)
    ∷ []

abbrev pub table_checks : ℕ → ℕ → ℕ → ℕ → List ℕ → List ℤ → List ℕ → List Check
table_checks n k process period limits factors prices =
    node_count n ∷ constraint_count k ∷ process_number process ∷ period_number period ∷ cell_checks n k limits factors prices

pub record Costs (g : Grid) (process : Process) (cs : List Contract) (p : List ℕ) (r : Shortfall) : Type 0 where
  pub payment : Exactly (net_payment g.factors cs p) r.payment
  pub rent-is : Exactly (rent g process p) r.rent
  pub shortfall-is : Exactly (shortfall g process cs p) r.shortfall
