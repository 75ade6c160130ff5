-- The price file there and back.
use mathlib.Core.Path.{◌≡◌, sym, ap, ◌∙◌}
use mathlib.Core.List.{List, [], ◌∷◌}
use Prim.Native.Nat.{ℕ, ◌≤◌}
use native.Mathlib.Omega.{arith}
use borrow.Author.Tests.{le-ltb}
use lib.ListN.{length, take}
use lib.IntN.{pos}
use Rattle.bits.proofs.Fields.{field_lt}
use Rattle.bits.proofs.Bytes.{bytes_below}
use Rattle.lists.specs.Lent.{overwrite}
use Rattle.std.specs.Prelude.{Ok}
use Rattle.tariff.specs.declared.contracts.Period.{Period}
use Rattle.tariff.specs.Refusals.{passed}
use Rattle.tariff.proofs.Checks.{first_passes, last-passes, passed_cons}
use Rattle.tariff.proofs.Answers.{given-told}
use Rattle.layouts.specs.Writing.{WriteAnswer}
use Rattle.layouts.specs.PriceFile.{price_bytes, period_in, prices_in}
use Rattle.layouts.specs.Writing.{IsWritten}
use Rattle.layouts.proofs.Writing.{writes_passed, writes_told}
use Rattle.price_rules.specs.ReadPrices.{PriceAnswer}
use Rattle.price_rules.specs.ReadPrices.{read_prices_call, price_file_checks, read_prices_checks, read_prices_checked, period_number, ReadsPrices}
use Rattle.price_rules.specs.WritePrices.{write_prices_call, write_prices_checks, write_prices_checked, prices_written, WritesPrices}
use Rattle.price_rules.proofs.PriceLaws.{readable}
use Rattle.price_rules.proofs.Taken.{prices-taken}
use Rattle.price_rules.proofs.RoundTrip.{ReadBack, read_then_written, written-then_read}
use Rattle.bits.specs.Bits.{Bytes}
use Rattle.round_trips.specs.Trips.{PricesAre}

-- ---- read, then written

module _ (k : ℕ) (s entry : List ℕ) (bytes : Bytes s) (t : Period) (table : List ℕ) (h : ReadsPrices (read_prices_call k s entry) (Ok t) table) (place : List ℕ)
    (room : length s ≤ length place) where
  accepts : read_prices_checked (read_prices_call k s entry) ≡ passed
  accepts = (given-told (read_prices_checked (read_prices_call k s entry)) (pos (period_in s) ∷ []) (pos (period_number t) ∷ []) h.period-given).0

  -- each check of the writer is one that the reader made, or is settled by what was read
  accepted : write_prices_checked (write_prices_call (period_number t) k table place) ≡ passed
  unfolding price_file_checks read_prices_checks write_prices_checks
  accepted =
      let taken = prices-taken k s entry t table h in
      let size = (readable k s entry accepts).size in
      let three = passed_cons _ _ accepts in
      let fifteen = passed_cons _ _ (passed_cons _ _ (passed_cons _ _ (passed_cons _ _ three.1).1).1).1 in
      first_passes _ _ (le-ltb 1 (period_number t) (omega (arith, field_lt s 0 1, taken.period-is)))
      ∙ first_passes _ _ three.0
      ∙ first_passes _ _ (le-ltb (length table) k taken.good-prices.long)
      ∙ first_passes _ _ (rw (sym taken.prices-are) fifteen.0)
      ∙ last-passes _ (le-ltb (length place) (price_bytes k) (omega arith))

  same_file : prices_written (write_prices_call (period_number t) k table place) ≡ s
  same_file =
      let taken = prices-taken k s entry t table h in
      rw (sym taken.prices-are, sym taken.period-is) (read_then_written k s entry (bytes_below s bytes) accepts)

  pub prices-rewritten : (a : WriteAnswer) (exit : List ℕ) → WritesPrices (write_prices_call (period_number t) k table place) a exit → IsWritten s place a exit
  prices-rewritten a exit w =
      let r = writes_passed _ (prices_written (write_prices_call (period_number t) k table place)) place a exit accepted w in
      record {
        length-is = r.length-is ∙ ap (λ (f : List ℕ). Ok (length f)) same_file;
        bytes-are = r.bytes-are ∙ ap
            (λ (f : List ℕ). overwrite f place) same_file;
      }

-- ---- written, then read

module _ (t k : ℕ) (prices place : List ℕ) (n : ℕ) (exit : List ℕ) (w : WritesPrices (write_prices_call t k prices place) (Ok n) exit) (entry : List ℕ)
    (room : k ≤ length entry) where
  told : (write_prices_checked (write_prices_call t k prices place) ≡ passed) × (take n exit ≡ prices_written (write_prices_call t k prices place))
  told = writes_told _ _ place n exit w

  back : ReadBack t k prices (prices_written (write_prices_call t k prices place))
  back = written-then_read t k prices place told.0

  read_back : read_prices_checked (read_prices_call k (take n exit) entry) ≡ passed
  read_back = rw told.1 (back.passes entry room)

  pub prices-reread : (a : PriceAnswer) (table : List ℕ) → ReadsPrices (read_prices_call k (take n exit) entry) a table → PricesAre t k prices entry a table
  prices-reread a table h =
      let period : period_in (take n exit) ≡ t = rw told.1 back.period in
      let cells : prices_in k (take n exit) ≡ take k prices = rw told.1 back.prices-are in
      record {
        period-is = rw (read_back, period) at h.period-given;
        prices-are = rw (read_back, cells) at h.prices-read;
      }
