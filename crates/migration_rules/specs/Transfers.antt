-- Document 02, paper 5: rows of moved customers, net transfers, and what is turned down. Load-serving entities (LSEs) are numbered from 1; n is how many there
-- are. Definitions only.
use Rattle.std.specs.Prelude.{Bool, cond, not, ◌||◌, ◌&&◌, List, [], ◌∷◌, ◌++◌, ℕ, suc, ◌-◌, ◌*◌, ltb, eqb, length, get_or, ℤ, pos, nat_abs, ◌-ℤ◌}
use Rattle.lists.specs.Lists.{list_to, any_of, above}
use Rattle.largest_remainders.specs.Ranks.{add_to}
use Rattle.integers.specs.Sums.{max0, sum_over_of}
use Rattle.tariff.specs.declared.refusals.Refusal.TheVariants.{MigrationRange, LoadExceeded}
use Rattle.tariff.specs.Refusals.{Check}
use Rattle.tariff.specs.Units.{max_entities, max_rows, max_customers, max_rate, max_load}

-- "customers moved ..., thousandths of a MW per customer ..., old and new LSE"; the class has no effect
pub record MigrationRow : Type 0 where
  pub customers : ℕ
  pub rate : ℕ
  pub old : ℕ
  pub new : ℕ

abbrev pub row : ℕ → ℕ → ℕ → ℕ → MigrationRow
row customers rate old new = record { customers = customers; rate = rate; old = old; new = new }

-- the lists' rows, by position
unfoldable pub rows_of : List ℕ → List ℕ → List ℕ → List ℕ → List MigrationRow
rows_of customers rates olds news = list_to (length customers) (λ i. row (get_or customers i 0) (get_or rates i 0) (get_or olds i 0) (get_or news i 0))

-- the rows' five lists
pub record RowLists : Type 0 where
  pub classes : List ℕ
  pub customers : List ℕ
  pub rates : List ℕ
  pub olds : List ℕ
  pub news : List ℕ

abbrev pub row_lists : List ℕ → List ℕ → List ℕ → List ℕ → List ℕ → RowLists
row_lists classes customers rates olds news = record { classes = classes; customers = customers; rates = rates; olds = olds; news = news }

abbrev pub migration_rows_in : RowLists → List MigrationRow
migration_rows_in lists = rows_of lists.customers lists.rates lists.olds lists.news

-- ---- nets

-- what a row moves from LSE i to LSE j
unfoldable pub moved : MigrationRow → ℕ → ℕ → ℕ
moved r i j = cond (eqb r.old i && eqb r.new j) (r.customers * r.rate) 0

-- "net them": from i to j, less what came back. 001: "lost load is positive and gained load is negative"
unfoldable pub net : List MigrationRow → ℕ → ℕ → ℤ
net rows i j = sum_over_of rows (λ r. pos (moved r i j) -ℤ pos (moved r j i))

-- what i loses to j: the net where it is above 0
unfoldable pub loss : List MigrationRow → ℕ → ℕ → ℕ
loss rows i j = nat_abs (max0 (net rows i j))

-- "its losses to all gainers", 1 to m, where lost i j is what i loses to j
unfoldable pub losses_to : (ℕ → ℕ → ℕ) → ℕ → ℕ → ℕ
losses_to lost i m = add_to m (λ j. lost i (suc j))

-- LSE i's current load
abbrev pub load : List ℕ → ℕ → ℕ
load loads i = get_or loads (i - 1) 0

-- ---- 22: "a figure, count or LSE number outside its range, unequal lists, or a row whose old and new LSE are one"

abbrev pub outside : Bool → Check
outside bad = record { fails = bad; refusal = MigrationRange }

-- "1 to 16 load-serving entities"
abbrev pub entity_count : ℕ → Check
entity_count n = outside (eqb n 0 || ltb max_entities n)

-- "up to 1,000 rows"
abbrev pub row_count : ℕ → Check
row_count m = outside (ltb max_rows m)

-- as many classes, rates, old and new LSEs as there are customers' figures
abbrev pub unequal_row_lists : ℕ → ℕ → ℕ → ℕ → ℕ → Check
unequal_row_lists m classes rates olds news = outside (not (eqb classes m) || (not (eqb rates m) || (not (eqb olds m) || not (eqb news m))))

-- "loads reach 10^12 thousandths"
abbrev pub load_range : List ℕ → Check
load_range loads = outside (any_of (above max_load) loads)

-- "numbered from 1"
abbrev pub entity_bad_of : ℕ → ℕ → Bool
entity_bad_of n i = eqb i 0 || ltb n i

-- "customers moved (to 1,000,000), thousandths of a MW per customer (to 10,000), old and new LSE"
unfoldable pub row_bad_of : ℕ → MigrationRow → Bool
row_bad_of n r = above max_customers r.customers || (above max_rate r.rate || (entity_bad_of n r.old || (entity_bad_of n r.new || eqb r.old r.new)))

abbrev pub row_range : ℕ → List MigrationRow → Check
row_range n rows = outside (any_of (row_bad_of n) rows)

-- of n LSEs and the rows
unfoldable pub migration_row_checks : ℕ → RowLists → List Check
migration_row_checks n lists =
    entity_count n
    ∷ row_count (length lists.customers)
    ∷ unequal_row_lists (length lists.customers) (length lists.classes) (length lists.rates) (length lists.olds) (length lists.news)
    ∷ row_range n (migration_rows_in lists)
    ∷ []

-- of the rows and a load for each LSE
unfoldable pub range_checks : RowLists → List ℕ → List Check
range_checks lists loads = migration_row_checks (length loads) lists ++ load_range loads ∷ []

-- ---- 23: "a loser whose load is 0 or less than its losses to all gainers"

abbrev pub exceeded : ℕ → ℕ → Bool
exceeded lost load = ltb 0 lost && (eqb load 0 || ltb load lost)

-- some LSE of 1 to n
abbrev pub loads_exceeded_of : (ℕ → ℕ → ℕ) → List ℕ → Bool
loads_exceeded_of lost loads = any_of (λ i. exceeded (losses_to lost i (length loads)) (load loads i)) (list_to (length loads) suc)

abbrev pub load_exceeded : (ℕ → ℕ → ℕ) → List ℕ → Check
load_exceeded lost loads = record { fails = loads_exceeded_of lost loads; refusal = LoadExceeded }
