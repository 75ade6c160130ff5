-- What holds of a grid's tables, and of an hour's, where no check refuses.
use mathlib.Core.Path.{◌≡◌}
use mathlib.Core.List.{List, [], ◌∷◌}
use Prim.Native.Nat.{ℕ, ◌*◌, ◌≤◌}
use mathlib.Core.Bool.{false}
use borrow.Author.Tests.{ltb-false}
use lib.ListN.{length, take}
use lib.IntN.{ℤ}
use Rattle.tariff.specs.Refusals.{passed}
use Rattle.tariff.specs.Units.{max_constraints, max_limit, max_price}
use Rattle.lists.specs.Lists.{Each}
use Rattle.tariff.specs.Refusals.{Check, first}
use Rattle.tariff.specs.Checks.{node_count, constraint_count, short_table, factor_range}
use Rattle.tariff.proofs.Checks.{passed_cons, nodes-few_of}
use Rattle.grid_tables.specs.TableChecks.{grid_table_checks}
use Rattle.grid_tables.specs.Inner.{Hour, GoodFactors, GoodCells, hour_table_checks}
use Rattle.grid_tables.proofs.Factors.{factors-in_range}
use Rattle.grid_tables.proofs.Cells.{good-cells}

-- no condition of a list of checks holds
pub passed_all : (cs : List Check) → first cs ≡ passed → Each (λ (c : Check). c.fails ≡ false) cs
passed_all [] e = tt
passed_all (c ∷ cs) e = let p = passed_cons c cs e in (p.0, passed_all cs p.1)

good-factors_of : (n k : ℕ) (table : List ℤ) → (node_count n).fails ≡ false → (constraint_count k).fails ≡ false → (short_table (length table) (n * k)).fails ≡ false
    → (factor_range (take (n * k) table)).fails ≡ false → GoodFactors n k table
good-factors_of n k table nodes constraints short range =
    let long : n * k ≤ length table = ltb-false (length table) (n * k) short in
    record { nodes-few = nodes-few_of n nodes; few = ltb-false max_constraints k constraints; long = long; in_range = factors-in_range n k table long range }

pub record GridTables (n k process period : ℕ) (limits : List ℕ) (factors : List ℤ) : Type 0 where
  pub process-number : process ≤ 2
  pub period-number : period ≤ 1
  pub good-limits : GoodCells max_limit k limits
  pub good-factors : GoodFactors n k factors

pub grid-tables : (n k process period : ℕ) (limits : List ℕ) (factors : List ℤ)
    → first (grid_table_checks n k process period limits factors) ≡ passed → GridTables n k process period limits factors
unfolding grid_table_checks
grid-tables n k process period limits factors e =
    let two = passed_all _ e in
    let sixteen = two.1.1 in
    let short = sixteen.1.1 in
    let six = short.1.1 in
    record {
      process-number = ltb-false 2 process sixteen.0;
      period-number = ltb-false 1 period sixteen.1.0;
      good-limits = good-cells max_limit k limits (ltb-false (length limits) k short.0) six.0;
      good-factors = good-factors_of n k factors two.0 two.1.0 short.1.0 six.1.0;
    }

pub record HourTables (n k period : ℕ) (factors : List ℤ) (prices : List ℕ) (place : ℕ) : Type 0 where
  pub period-number : period ≤ 1
  pub good-factors : GoodFactors n k factors
  pub good-prices : GoodCells max_price k prices
  pub room : n ≤ place

pub hour_tables : (n k period : ℕ) (factors : List ℤ) (prices : List ℕ) (place : ℕ)
    → first (hour_table_checks n k period factors prices place) ≡ passed → HourTables n k period factors prices place
unfolding hour_table_checks
hour_tables n k period factors prices place e =
    let all = passed_all _ e in
    let short = all.1.1.1 in
    let seven = short.1.1.1 in
    record {
      period-number = ltb-false 1 period all.1.1.0;
      good-factors = good-factors_of n k factors all.0 all.1.0 short.0 seven.0;
      good-prices = good-cells max_price k prices (ltb-false (length prices) k short.1.0) seven.1.0;
      room = ltb-false place n short.1.1.0;
    }

pub hour_of : {n k period : ℕ} {factors : List ℤ} {prices : List ℕ} {place : ℕ} → HourTables n k period factors prices place → Hour n k factors prices
hour_of t = record { good-factors = t.good-factors; good-prices = t.good-prices }
