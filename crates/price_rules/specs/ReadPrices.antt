-- Reading prices for a stated constraint count (document 01, "When input is turned down" and "The three files").
use Rattle.std.specs.Prelude.{◌≡◌, List, [], ◌∷◌, ◌++◌, ℕ, length, pos, Ok, Err, Result}
use Rattle.lists.specs.Lent.{Lent, before, after}
use Rattle.tariff.specs.declared.contracts.Period.{Period}
use Rattle.tariff.specs.declared.contracts.Period.TheVariants.{OffPeak, OnPeak}
use Rattle.tariff.specs.Refusals.{Checked}
use Rattle.tariff.specs.Refusals.{Check, first, Outcome, given, refused_by, answered, cells_after, cell_after, number_after}
use Rattle.tariff.specs.Checks.{constraint_count, price_range, short_table}
use Rattle.layouts.specs.Files.{short_file, file_length, padding}
use Rattle.layouts.specs.PriceFile.{price_bytes, period_in, prices_in, price_pad_in, price_count}
use Rattle.tariff.specs.declared.refusals.Refusal.{Refusal}

-- the constraint count, the file, and the lent table as it is at entry
pub record ReadPricesCall : Type 0 where
  pub constraints : ℕ
  pub file : List ℕ
  pub table : List ℕ

abbrev pub read_prices_call : ℕ → List ℕ → List ℕ → ReadPricesCall
read_prices_call k file table = record { constraints = k; file = file; table = table }

-- what reading a price file answers: the period, or the refusal
abbrev pub PriceAnswer : Type 0
PriceAnswer = Result Period Refusal

-- "period 1 bit" (document 01)
abbrev pub period_number : Period → ℕ
period_number OffPeak = 0
period_number OnPeak = 1

-- the period's number, or the refusal's number
abbrev pub price_outcome : PriceAnswer → Outcome
price_outcome (Ok period) = given (pos (period_number period) ∷ [])
price_outcome (Err r) = refused_by r

-- the file's own: "3 for that count. 1: no byte. 14: the file's count differs. 5. 15: a price too large. 8"
unfoldable pub price_file_checks : ℕ → List ℕ → List Check
price_file_checks k file =
    constraint_count k
    ∷ short_file file 1
    ∷ price_count file k
    ∷ file_length file (price_bytes k)
    ∷ price_range (prices_in k file)
    ∷ padding (price_pad_in k file)
    ∷ []

module _ (q : ReadPricesCall) where
  -- then "9"
  unfoldable pub read_prices_checks : List Check
  read_prices_checks = price_file_checks q.constraints q.file ++ short_table (length q.table) q.constraints ∷ []

  abbrev pub read_prices_checked : Checked
  read_prices_checked = first read_prices_checks

-- the promise: the answer, and the table at exit
pub record ReadsPrices (q : ReadPricesCall) (answer : PriceAnswer) (table : List ℕ) : Type 0 where
  pub period-given : price_outcome answer ≡ answered (read_prices_checked q) (pos (period_in q.file) ∷ [])
  pub prices-read : table ≡ cells_after (read_prices_checked q) (prices_in q.constraints q.file) q.table

-- the same for C: the refusal's number, and the period in a lent figure
pub record ReadsPricesForC (q : ReadPricesCall) (number : ℕ) (table : List ℕ) (period : Lent ℕ) : Type 0 where
  pub refusal-number : number ≡ number_after (read_prices_checked q)
  pub prices-read : table ≡ cells_after (read_prices_checked q) (prices_in q.constraints q.file) q.table
  pub period-given : after period ≡ cell_after (read_prices_checked q) (period_in q.file) (before period)
