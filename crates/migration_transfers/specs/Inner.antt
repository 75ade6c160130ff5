-- What inner functions say of squares and rows.
use Rattle.std.specs.Prelude.{Bool, ◌≡◌, ◌≢◌, List, [], ℕ, ◌*◌, ◌≤◌, ◌<◌, length, get_or, set, ℤ, neg_ℤ, nat_abs, ◌+ℤ◌}
use Rattle.lists.specs.Lists.{list_to}
use Rattle.tariff.specs.declared.units.Transfer.{Transfer}
use Rattle.tariff.specs.Units.{max_entities, max_rows, max_customers, max_rate}
use Rattle.migration_rules.specs.Transfers.{MigrationRow, RowLists, row, row_lists, unequal_row_lists}
use Rattle.migration_transfers.specs.declared.MovedRow.{MovedRow}
use Rattle.migration_transfers.specs.declared.RowLists.{RowLists as Lists}
use Rattle.migration_transfers.specs.Squares.{no_transfer, cell_in_of, Nets}

-- the loads of 1,000 rows, there and back
abbrev pub max_net : ℕ
max_net = 2 * (max_customers * max_rate) * max_rows

-- ---- squares

unfoldable pub stored : List (List Transfer) → ℕ → ℕ → Transfer → List (List Transfer)
stored square i j x = set square i (set (get_or square i []) j x)

-- so much more at a cell, and so much less at its mirror
unfoldable pub transferred : List (List Transfer) → ℕ → ℕ → ℤ → List (List Transfer)
transferred square from to x =
    stored (stored square from to (record { 0 = cell_in_of square from to +ℤ x })) to from (record { 0 = cell_in_of square to from +ℤ neg_ℤ x })

-- 16 rows of 16 cells
pub record Shaped (square : List (List Transfer)) : Type 0 where
  pub long : length square ≡ max_entities
  pub wide : (i : ℕ) → i < max_entities → length (get_or square i []) ≡ max_entities

pub record SizedRow (row : List Transfer) : Type 0 where
  pub sized : (j : ℕ) → j < max_entities → nat_abs (get_or row j no_transfer).0 ≤ max_net

pub record SizedSquare (square : List (List Transfer)) : Type 0 where
  pub sized : (i j : ℕ) → i < max_entities → j < max_entities → nat_abs (cell_in_of square i j) ≤ max_net

pub record NetSquare (rows : List MigrationRow) (square : List (List Transfer)) : Type 0 where
  pub nets : Nets rows square
  pub shape : Shaped square
  pub size : SizedSquare square

-- ---- rows

pub record RowIn (r : MigrationRow) : Type 0 where
  pub customers-most : r.customers ≤ max_customers
  pub rate-most : r.rate ≤ max_rate
  pub old-some : 0 < r.old
  pub old-most : r.old ≤ max_entities
  pub new-some : 0 < r.new
  pub new-most : r.new ≤ max_entities
  pub apart : r.old ≢ r.new

-- the five lists, and a row, in the words of the rules
abbrev pub lists_of : Lists → RowLists
lists_of lists = row_lists lists.classes.now lists.customers.now lists.rates.now lists.olds.now lists.news.now

abbrev pub row_says : MovedRow → MigrationRow
row_says r = row r.customers r.rate r.old r.new

abbrev pub unequal_lists : RowLists → Bool
unequal_lists lists = (unequal_row_lists (length lists.customers) (length lists.classes) (length lists.rates) (length lists.olds) (length lists.news)).fails

-- as many rates and LSEs as customers' figures
abbrev pub EqualLists : List ℕ → List ℕ → List ℕ → List ℕ → Type 0
EqualLists customers rates olds news = (length rates ≡ length customers) × (length olds ≡ length customers) × (length news ≡ length customers)

-- row i of the lists
abbrev pub migration_row_at : List ℕ → List ℕ → List ℕ → List ℕ → ℕ → MigrationRow
migration_row_at customers rates olds news i = row (get_or customers i 0) (get_or rates i 0) (get_or olds i 0) (get_or news i 0)

-- the first m of them
abbrev pub migration_rows_to : ℕ → List ℕ → List ℕ → List ℕ → List ℕ → List MigrationRow
migration_rows_to m customers rates olds news = list_to m (migration_row_at customers rates olds news)

pub record RowsIn (customers rates olds news : List ℕ) : Type 0 where
  pub few : length customers ≤ max_rows
  pub rates-many : length rates ≡ length customers
  pub olds-many : length olds ≡ length customers
  pub news-many : length news ≡ length customers
  pub each : (i : ℕ) → i < length customers → RowIn (migration_row_at customers rates olds news i)
