-- What holds where no check of the price file's reader or writer refuses, and what the writer has written at the end.
use mathlib.Core.Path.{◌≡◌, refl, ◌∙◌}
use mathlib.Core.Bool.{false}
use mathlib.Core.List.{List, [], ◌∷◌, ◌++◌, map}
use Prim.Native.Nat.{ℕ, zero, suc, ◌≤◌, ◌<◌}
use native.Mathlib.Omega.{arith}
use borrow.Author.Tests.{ltb-false, le-ltb}
use lib.ListN.{length, take}
use Rattle.bits.specs.Fields.{bits}
use Rattle.bits.specs.declared.BitWriter.{BitWriter}
use Rattle.bits.proofs.Numbers.{Below}
use Rattle.bits.proofs.Files.{total-append, total-run, length-file}
use Rattle.tariff.specs.declared.contracts.Period.{Period}
use Rattle.tariff.specs.declared.contracts.Period.TheVariants.{OffPeak, OnPeak}
use Rattle.tariff.specs.ContractRules.{period_of}
use Rattle.tariff.specs.Refusals.{passed}
use Rattle.tariff.specs.Units.{max_constraints, max_price}
use Rattle.tariff.specs.Refusals.{first}
use Rattle.lists.specs.Lent.{overwrite}
use Rattle.tariff.specs.Checks.{short_table, price_range}
use Rattle.tariff.proofs.Checks.{first_passes, same_of}
use Rattle.layouts.specs.Files.{pad_for}
use Rattle.layouts.specs.PriceFile.{price_width, price_bits, price_bytes, price_fields, price_file, price_count_in, price_pad_in}
use Rattle.runs.specs.Inner.{WrittenFields}
use Rattle.runs.proofs.Written.{written-end}
use Rattle.grid_tables.specs.Inner.{GoodCells}
use Rattle.grid_tables.proofs.Cells.{good-cells}
use Rattle.grid_tables.proofs.Passing.{passed_all}
use Rattle.price_rules.specs.ReadPrices.{read_prices_call, price_file_checks, read_prices_checks, read_prices_checked, period_number}
use Rattle.price_rules.specs.WritePrices.{write_prices_call, write_prices_checks, write_prices_checked}

-- ---- a period and its number

pub number-of_period : (n : ℕ) → n < 2 → period_number (period_of n) ≡ n
number-of_period zero b = refl
number-of_period (suc zero) b = refl
number-of_period (suc (suc n)) b = absurd (omega arith)

pub period-of_number : (t : Period) → period_of (period_number t) ≡ t
period-of_number OffPeak = refl
period-of_number OnPeak = refl

-- ---- files and tables that are not refused

-- a file that is read
pub record Readable (k : ℕ) (s table : List ℕ) : Type 0 where
  pub few : k ≤ max_constraints
  pub count : price_count_in s ≡ k
  pub size : length s ≡ price_bytes k
  pub pad : price_pad_in k s ≡ 0
  pub room : k ≤ length table

pub readable : (k : ℕ) (s table : List ℕ) → read_prices_checked (read_prices_call k s table) ≡ passed → Readable k s table
unfolding price_file_checks read_prices_checks
readable k s table e =
    let three = passed_all _ e in
    let fourteen = three.1.1 in
    let eight = fourteen.1.1.1 in
    record { few = ltb-false _ _ three.0; count = same_of _ _ fourteen.0; size = same_of _ _ fourteen.1.0; pad = same_of _ _ eight.0; room = ltb-false _ _ eight.1.0 }

-- prices that are written
pub record Writable (t k : ℕ) (table place : List ℕ) : Type 0 where
  pub period : t ≤ 1
  pub few : k ≤ max_constraints
  pub good : GoodCells max_price k table
  pub room : price_bytes k ≤ length place

pub writable : (t k : ℕ) (table place : List ℕ) → write_prices_checked (write_prices_call t k table place) ≡ passed → Writable t k table place
unfolding write_prices_checks
writable t k table place e =
    let all = passed_all _ e in
    let short = all.1.1 in
    record {
      period = ltb-false _ _ all.0;
      few = ltb-false _ _ all.1.0;
      good = good-cells max_price k table (ltb-false _ _ short.0) short.1.0;
      room = ltb-false _ _ short.1.1.0;
    }

-- past 17, 3, 9 and 15: the place
pub then_place : (t k : ℕ) (table place : List ℕ) → t ≤ 1 → k ≤ max_constraints → k ≤ length table → (price_range (take k table)).fails ≡ false
    → write_prices_checked (write_prices_call t k table place) ≡ first (short_table (length place) (price_bytes k) ∷ [])
unfolding write_prices_checks
then_place t k table place period few long range =
    first_passes _ _ (le-ltb _ _ period) ∙ first_passes _ _ (le-ltb _ _ few) ∙ first_passes _ _ (le-ltb _ _ long) ∙ first_passes _ _ range

pub file-length : (t k : ℕ) (ps : List ℕ) → length ps ≡ k → length (price_file t k ps) ≡ price_bytes k
unfolding price_file price_fields
file-length t k ps long =
    length-file _ (price_bytes k) (rw (total-append (map (bits price_width) ps) (bits (pad_for (price_bits k)) 0 ∷ []), total-run price_width ps, long) (omega arith))

-- the period, the count, the prices and the padding, one after the other
pub prices-filled : (t k : ℕ) (ps first buf : List ℕ) (p : BitWriter) → length ps ≡ k
    → WrittenFields (((bits 1 t ∷ bits 7 k ∷ []) ++ map (bits price_width) ps) ++ bits (pad_for (price_bits k)) 0 ∷ []) first buf p → p.held ≤ 7 → Below 8 buf → price_bytes k ≤ length buf
    → buf ≡ overwrite (price_file t k ps) first
unfolding price_file price_fields
prices-filled t k ps first buf p long h few b le =
    written-end _ first buf p (price_bytes k) h few b
    (rw (total-append (map (bits price_width) ps) (bits (pad_for (price_bits k)) 0 ∷ []), total-run price_width ps, long) (omega arith)) le
