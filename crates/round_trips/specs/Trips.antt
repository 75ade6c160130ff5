-- Demand 2's round trips over what the readers and writers of the three files promise: the answers, and the lent cells at exit. Statements only. `entry` cells are
-- those lent to the reader, `place` those lent to the writer.
use Rattle.std.specs.Prelude.{◌≡◌, List, [], ◌∷◌, ℕ, ◌*◌, ◌≤◌, length, take, ℤ, pos, Ok}
use Rattle.bits.specs.Bits.{Bytes}
use Rattle.lists.specs.Lent.{overwrite}
use Rattle.layouts.specs.Writing.{WriteAnswer}
use Rattle.layouts.specs.declared.forms.Form.{Form}
use Rattle.layouts.specs.BookTable.{contract_cells}
use Rattle.layouts.specs.Writing.{IsWritten}
use Rattle.grid_rules.specs.ReadGrid.{GridAnswer, grid_read}
use Rattle.grid_rules.specs.ReadGrid.{read_grid_call, ReadsGrid}
use Rattle.grid_rules.specs.WriteGrid.{write_grid_call, WritesGrid}
use Rattle.book_rules.specs.ReadBook.{BookAnswer, book_read}
use Rattle.book_rules.specs.ReadBook.{read_book_call, ReadsBook}
use Rattle.book_rules.specs.WriteBook.{write_book_call, WritesBook}
use Rattle.tariff.specs.declared.contracts.Period.{Period}
use Rattle.tariff.specs.Refusals.{given}
use Rattle.price_rules.specs.ReadPrices.{PriceAnswer, period_number, price_outcome}
use Rattle.price_rules.specs.ReadPrices.{read_prices_call, ReadsPrices}
use Rattle.price_rules.specs.WritePrices.{write_prices_call, WritesPrices}

-- what was written is given: figures, and cells at the front of the tables, the others as they were
pub record GridIs (f : Form) (n k : ℕ) (limits : List ℕ) (factors : List ℤ) (ls₀ : List ℕ) (fs₀ : List ℤ)
    (answer : GridAnswer) (ls : List ℕ) (fs : List ℤ) : Type 0 where
  pub counts-are : answer ≡ grid_read n k f
  pub limits-are : ls ≡ overwrite (take k limits) ls₀
  pub factors-are : fs ≡ overwrite (take (n * k) factors) fs₀

pub record BookIs (f : Form) (m : ℕ) (rows entry : List ℕ) (answer : BookAnswer) (table : List ℕ) : Type 0 where
  pub count-is : answer ≡ book_read m f
  pub rows_are : table ≡ overwrite (take (contract_cells * m) rows) entry

pub record PricesAre (t k : ℕ) (list entry : List ℕ) (answer : PriceAnswer) (table : List ℕ) : Type 0 where
  pub period-is : price_outcome answer ≡ given (pos t ∷ [])
  pub prices-are : table ≡ overwrite (take k list) entry

-- THE STATEMENTS
pub record RoundTrips : Type 0 where
  -- "an accepted file, read and then written, is the same bytes": the tables as the reader left them, written into any place that is long enough
  pub grid-read_then_written : (s : List ℕ) (ls₀ : List ℕ) (fs₀ : List ℤ) → Bytes s
      → (n k : ℕ) (f : Form) (ls : List ℕ) (fs : List ℤ) → ReadsGrid (read_grid_call s ls₀ fs₀) (grid_read n k f) ls fs → (place : List ℕ) → length s ≤ length place
      → (answer : WriteAnswer) (exit : List ℕ) → WritesGrid (write_grid_call f n k ls fs place) answer exit → IsWritten s place answer exit
  pub book-read_then_written : (n : ℕ) (s entry : List ℕ) → Bytes s
      → (m : ℕ) (f : Form) (table : List ℕ) → ReadsBook (read_book_call n s entry) (book_read m f) table → (place : List ℕ) → length s ≤ length place
      → (answer : WriteAnswer) (exit : List ℕ) → WritesBook (write_book_call f n m table place) answer exit → IsWritten s place answer exit
  pub prices-read_then_written : (k : ℕ) (s entry : List ℕ) → Bytes s
      → (t : Period) (table : List ℕ) → ReadsPrices (read_prices_call k s entry) (Ok t) table → (place : List ℕ) → length s ≤ length place
      → (answer : WriteAnswer) (exit : List ℕ) → WritesPrices (write_prices_call (period_number t) k table place) answer exit → IsWritten s place answer exit
  -- "a grid, book or price list written and then read is the same": the first bytes of the writer's place, as many as it gives, read into any tables that are
  -- long enough
  pub grid-written_then_read : (f : Form) (n k : ℕ) (limits : List ℕ) (factors : List ℤ) (place : List ℕ) (size : ℕ) (exit : List ℕ)
      → WritesGrid (write_grid_call f n k limits factors place) (Ok size) exit → (ls₀ : List ℕ) (fs₀ : List ℤ) → k ≤ length ls₀ → n * k ≤ length fs₀
      → (answer : GridAnswer) (ls : List ℕ) (fs : List ℤ) → ReadsGrid (read_grid_call (take size exit) ls₀ fs₀) answer ls fs
      → GridIs f n k limits factors ls₀ fs₀ answer ls fs
  pub book-written_then_read : (f : Form) (n m : ℕ) (rows place : List ℕ) (size : ℕ) (exit : List ℕ)
      → WritesBook (write_book_call f n m rows place) (Ok size) exit → (entry : List ℕ) → contract_cells * m ≤ length entry
      → (answer : BookAnswer) (table : List ℕ) → ReadsBook (read_book_call n (take size exit) entry) answer table → BookIs f m rows entry answer table
  pub prices-written_then_read : (t k : ℕ) (list place : List ℕ) (size : ℕ) (exit : List ℕ)
      → WritesPrices (write_prices_call t k list place) (Ok size) exit → (entry : List ℕ) → k ≤ length entry
      → (answer : PriceAnswer) (table : List ℕ) → ReadsPrices (read_prices_call k (take size exit) entry) answer table → PricesAre t k list entry answer table
