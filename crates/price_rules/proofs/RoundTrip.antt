-- A price file there and back, over what the entries ensure: bytes that no check of the reader refuses are the file of the prices that are read from them,
-- and a file that is written is not refused and gives the period and the prices.
use mathlib.Core.Path.{◌≡◌, ◌∙◌}
use mathlib.Core.List.{List}
use Prim.Native.Nat.{ℕ, ◌^◌, ◌≤◌, ◌<◌}
use native.Mathlib.Omega.{arith}
use borrow.Author.Tests.{le-ltb}
use lib.Pow.{pow_pos}
use lib.ListN.{length, take}
use lib.Seq.{length-take-le}
use Rattle.lists.proofs.Lists.{every_cell}
use Rattle.bits.proofs.Numbers.{Below}
use Rattle.tariff.specs.Refusals.{passed}
use Rattle.tariff.proofs.Checks.{first_passes, passed_cons, same, last-passes}
use Rattle.tariff.specs.Units.{max_price}
use Rattle.grid_tables.proofs.Cells.{cut-sized}
use Rattle.layouts.specs.PriceFile.{price_width, price_file, period_in, prices_in}
use Rattle.layouts.proofs.PriceFile.{PriceWritten, prices-written, prices-read}
use Rattle.price_rules.specs.ReadPrices.{read_prices_call, price_file_checks, read_prices_checks, read_prices_checked}
use Rattle.price_rules.specs.WritePrices.{write_prices_call, write_prices_checks, write_prices_checked}
use Rattle.price_rules.proofs.PriceLaws.{readable, Writable, writable}

-- ---- read, then written

pub read_then_written : (k : ℕ) (s table : List ℕ) → Below 8 s → read_prices_checked (read_prices_call k s table) ≡ passed → price_file (period_in s) k (prices_in k s) ≡ s
read_then_written k s table b e = let ok = readable k s table e in prices-read k s b ok.size ok.count ok.pad

-- ---- written, then read

-- what the reader finds in a file: it is not refused where the table is long enough
pub record ReadBack (t k : ℕ) (prices s : List ℕ) : Type 0 where
  pub passes : (table : List ℕ) → k ≤ length table → read_prices_checked (read_prices_call k s table) ≡ passed
  pub period : period_in s ≡ t
  pub prices-are : prices_in k s ≡ take k prices

module _ (t k : ℕ) (prices place : List ℕ) (e : write_prices_checked (write_prices_call t k prices place) ≡ passed) where
  ok : Writable t k prices place
  ok = writable t k prices place e

  prices-fit : Below price_width (take k prices)
  prices-fit =
      let long = length-take-le k prices ok.good.long in
      every_cell (λ v. v < 2 ^ price_width) (take k prices) 0 (pow_pos price_width) (λ i h. omega (arith, cut-sized max_price k prices ok.good i (rw long at h)))

  found : PriceWritten t k (take k prices) (price_file t k (take k prices))
  found =
      prices-written t k (take k prices)
      (record { period-fits = omega (arith, ok.period); count_fits = omega (arith, ok.few); one_price_each = length-take-le k prices ok.good.long; prices-fit = prices-fit })

  -- each check of the reader is one that the writer made, or is settled by the file
  not_refused : (table : List ℕ) → k ≤ length table → read_prices_checked (read_prices_call k (price_file t k (take k prices)) table) ≡ passed
  unfolding price_file_checks read_prices_checks write_prices_checks
  not_refused table h =
      let s = price_file t k (take k prices) in
      let three = passed_cons _ _ (passed_cons _ _ e).1 in
      let fifteen = passed_cons _ _ (passed_cons _ _ three.1).1 in
      first_passes _ _ three.0
      ∙ first_passes _ _ (le-ltb (length s) 1 (omega (arith, found.size)))
      ∙ first_passes _ _ (same _ _ found.count)
      ∙ first_passes _ _ (same _ _ found.size)
      ∙ first_passes _ _ (rw found.prices fifteen.0)
      ∙ first_passes _ _ (same _ _ found.pad)
      ∙ last-passes _ (le-ltb _ _ h)

  pub written-then_read : ReadBack t k prices (price_file t k (take k prices))
  written-then_read = record { passes = not_refused; period = found.period; prices-are = found.prices }
