-- Writing prices (document 01, "When input is turned down" and "The three files").
use Rattle.std.specs.Prelude.{List, [], ◌∷◌, ℕ, length, take}
use Rattle.lists.specs.Lent.{Lent, before, after}
use Rattle.tariff.specs.Refusals.{Checked}
use Rattle.tariff.specs.Refusals.{Check, first}
use Rattle.tariff.specs.Checks.{constraint_count, period_number, price_range, short_table}
use Rattle.layouts.specs.Writing.{WriteAnswer}
use Rattle.layouts.specs.PriceFile.{price_bytes, price_file}
use Rattle.layouts.specs.Writing.{Writes, WritesForC}

-- the period, the constraint count, the table, and the place for the file as it is at entry
pub record WritePricesCall : Type 0 where
  pub period : ℕ
  pub constraints : ℕ
  pub table : List ℕ
  pub place : List ℕ

abbrev pub write_prices_call : ℕ → ℕ → List ℕ → List ℕ → WritePricesCall
write_prices_call t k table place = record { period = t; constraints = k; table = table; place = place }

module _ (q : WritePricesCall) where
  -- "17, 3, 9, 15, 9 likewise"
  unfoldable pub write_prices_checks : List Check
  write_prices_checks =
      period_number q.period
      ∷ constraint_count q.constraints
      ∷ short_table (length q.table) q.constraints
      ∷ price_range (take q.constraints q.table)
      ∷ short_table (length q.place) (price_bytes q.constraints)
      ∷ []

  abbrev pub write_prices_checked : Checked
  write_prices_checked = first write_prices_checks

  -- the file written
  abbrev pub prices_written : List ℕ
  prices_written = price_file q.period q.constraints (take q.constraints q.table)

-- the promise: the answer, and the place at exit
abbrev pub WritesPrices : WritePricesCall → WriteAnswer → List ℕ → Type 0
WritesPrices q answer exit = Writes (write_prices_checked q) (prices_written q) q.place answer exit

abbrev pub WritesPricesForC : WritePricesCall → ℕ → List ℕ → Lent ℕ → Type 0
WritesPricesForC q number exit bytes = WritesForC (write_prices_checked q) (prices_written q) q.place (before bytes) number exit (after bytes)
