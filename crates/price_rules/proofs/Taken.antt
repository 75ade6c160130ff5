-- Prices as their reader left them in a lent table: it holds the file's prices and is good; and a reader with the longest table refuses by the file's own checks alone.
use mathlib.Core.Path.{◌≡◌, sym}
use mathlib.Core.List.{List, [], ◌∷◌}
use Prim.Native.Nat.{ℕ}
use native.Mathlib.Omega.{arith}
use borrow.Author.Tests.{ltb-false, le-ltb}
use lib.ListN.{length, take}
use lib.IntN.{pos}
use mathlib.Core.Bool.{false}
use Rattle.lists.specs.Lists.{any_of, above}
use Rattle.lists.specs.Lent.{overwrite}
use Rattle.lists.proofs.Fronts.{front-is, front-room}
use Rattle.std.specs.Prelude.{Ok}
use Rattle.tariff.specs.declared.contracts.Period.{Period}
use Rattle.tariff.specs.Refusals.{passed}
use Rattle.tariff.specs.Units.{max_constraints, max_price}
use Rattle.tariff.specs.Refusals.{first}
use Rattle.tariff.specs.Checks.{short_table}
use Rattle.tariff.proofs.Checks.{passed_cons, passed_append, last-passes, first-room}
use Rattle.tariff.proofs.Answers.{given-told}
use Rattle.layouts.specs.PriceFile.{period_in, prices_in}
use Rattle.layouts.proofs.PriceFile.{length-prices_in}
use Rattle.grid_tables.specs.Inner.{GoodCells}
use Rattle.grid_tables.proofs.Cells.{good-cells}
use Rattle.price_rules.specs.ReadPrices.{read_prices_call, price_file_checks, read_prices_checks, read_prices_checked, period_number, ReadsPrices}

-- ---- read

pub record PricesTaken (k : ℕ) (file : List ℕ) (t : ℕ) (table : List ℕ) : Type 0 where
  pub passes : first (price_file_checks k file) ≡ passed
  pub period-is : period_in file ≡ t
  pub prices-are : prices_in k file ≡ take k table
  pub good-prices : GoodCells max_price k table

module _ (k : ℕ) (s table₀ : List ℕ) where
  front-prices : take k (overwrite (prices_in k s) table₀) ≡ prices_in k s
  front-prices = front-is (prices_in k s) table₀ k (length-prices_in k s)

  fifteen : first (price_file_checks k s) ≡ passed → any_of (above max_price) (prices_in k s) ≡ false
  unfolding price_file_checks
  fifteen e = (passed_cons _ _ (passed_cons _ _ (passed_cons _ _ (passed_cons _ _ (passed_cons _ _ e).1).1).1).1).0

  pub prices-taken : (t : Period) (table : List ℕ) → ReadsPrices (read_prices_call k s table₀) (Ok t) table → PricesTaken k s (period_number t) table
  unfolding read_prices_checks
  prices-taken t table h =
      let told = given-told (read_prices_checked (read_prices_call k s table₀)) (pos (period_in s) ∷ []) (pos (period_number t) ∷ []) h.period-given in
      let same : pos (period_number t) ∷ [] ≡ pos (period_in s) ∷ [] = told.1 in
      let left : table ≡ overwrite (prices_in k s) table₀ = rw told.0 at h.prices-read in
      let own = (passed_append (price_file_checks k s) _ told.0).0 in
      record {
        passes = own;
        period-is = cc;
        prices-are = rw left (sym front-prices);
        good-prices = rw left (good-cells max_price k (overwrite (prices_in k s) table₀) (front-room (prices_in k s) table₀ k (length-prices_in k s)) (rw front-prices (fifteen own)));
      }

-- ---- refused

pub room-enough : (k : ℕ) (s table : List ℕ) → length table ≡ max_constraints → read_prices_checked (read_prices_call k s table) ≡ first (price_file_checks k s)
unfolding price_file_checks read_prices_checks
room-enough k s table cells =
    first-room (price_file_checks k s) (short_table (length table) k ∷ [])
    (λ e. last-passes _ (le-ltb (length table) k (omega (arith, ltb-false max_constraints k (passed_cons _ _ e).0))))
