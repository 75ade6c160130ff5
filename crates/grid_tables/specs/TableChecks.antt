-- Document 01, testing a book's bytes against grid tables: the checks up to 7, which every operation on a grid's tables has.
use Rattle.std.specs.Prelude.{List, [], ◌∷◌, ◌++◌, ℕ, ◌*◌, length, take, ℤ}
use Rattle.tariff.specs.Refusals.{Check}
use Rattle.tariff.specs.Checks.{node_count, constraint_count, process_number, period_number, short_table, limit_range, factor_range, price_range}

-- "2, 3. 16: process not 0 to 2. 17: period not 0 or 1. 9, 6, 7", with further lent cells under the 9
abbrev pub grid_tables_with : List Check → ℕ → ℕ → ℕ → ℕ → List ℕ → List ℤ → List Check
grid_tables_with cells n k process period limits factors =
    node_count n
    ∷ constraint_count k
    ∷ process_number process
    ∷ period_number period
    ∷ short_table (length limits) k
    ∷ short_table (length factors) (n * k)
    ∷ cells
    ++ limit_range (take k limits)
    ∷ factor_range (take (n * k) factors)
    ∷ []

unfoldable pub grid_table_checks : ℕ → ℕ → ℕ → ℕ → List ℕ → List ℤ → List Check
grid_table_checks n k process period limits factors = grid_tables_with [] n k process period limits factors

-- an hour's: "2, 3, 9, 7, 15", with conditions before the 9 and further lent cells under it
abbrev pub hour_tables_with : List Check → List Check → ℕ → ℕ → List ℤ → List ℕ → List Check
hour_tables_with numbers cells n k factors prices =
    node_count n
    ∷ constraint_count k
    ∷ numbers
    ++ short_table (length factors) (n * k)
    ∷ short_table (length prices) k
    ∷ cells
    ++ factor_range (take (n * k) factors)
    ∷ price_range (take k prices)
    ∷ []
