-- Demand 2's round trips over what the C functions promise: numbers, lent figures, and the lent cells at exit. Statements only. A grid's and a book's are of both
-- forms; `entry` cells are those lent to the reader, `place` those lent to the writer.
use Rattle.std.specs.Prelude.{◌≡◌, List, ℕ, ◌*◌, ◌≤◌, length, take, ℤ}
use Rattle.lists.specs.Lent.{Lent, after, overwrite}
use Rattle.layouts.specs.Forms.{form_number, form_of}
use Rattle.layouts.specs.BookTable.{contract_cells}
use Rattle.grid_rules.specs.ReadGrid.{read_grid_call, ReadsGridForC}
use Rattle.grid_rules.specs.WriteGrid.{write_grid_call, WritesGridForC}
use Rattle.book_rules.specs.ReadBook.{read_book_call, ReadsBookForC}
use Rattle.book_rules.specs.WriteBook.{write_book_call, WritesBookForC}
use Rattle.price_rules.specs.ReadPrices.{read_prices_call, ReadsPricesForC}
use Rattle.price_rules.specs.WritePrices.{write_prices_call, WritesPricesForC}
use Rattle.bits.specs.Bits.{Bytes}

-- 0 is answered, and the file s is written into the place: its length is given, its bytes stand at the front, and the others are as they were
pub record WrittenForC (s place : List ℕ) (number : ℕ) (exit : List ℕ) (bytes : Lent ℕ) : Type 0 where
  pub number-0 : number ≡ 0
  pub length-is : after bytes ≡ length s
  pub bytes-are : exit ≡ overwrite s place

-- 0 is answered, and what was written is given: figures, and cells at the front of the tables, the others as they were
pub record GridForC (form n k : ℕ) (limits : List ℕ) (factors : List ℤ) (ls₀ : List ℕ) (fs₀ : List ℤ)
    (number : ℕ) (ls : List ℕ) (fs : List ℤ) (nodes constraints told : Lent ℕ) : Type 0 where
  pub number-0 : number ≡ 0
  pub nodes-are : after nodes ≡ n
  pub constraints-are : after constraints ≡ k
  pub form-is : after told ≡ form_number (form_of form)
  pub limits-are : ls ≡ overwrite (take k limits) ls₀
  pub factors-are : fs ≡ overwrite (take (n * k) factors) fs₀

pub record BookForC (form m : ℕ) (rows entry : List ℕ) (number : ℕ) (table : List ℕ) (contracts told : Lent ℕ) : Type 0 where
  pub number-0 : number ≡ 0
  pub count-is : after contracts ≡ m
  pub form-is : after told ≡ form_number (form_of form)
  pub rows_are : table ≡ overwrite (take (contract_cells * m) rows) entry

pub record PricesForC (t k : ℕ) (prices entry : List ℕ) (number : ℕ) (table : List ℕ) (period : Lent ℕ) : Type 0 where
  pub number-0 : number ≡ 0
  pub period-is : after period ≡ t
  pub prices-are : table ≡ overwrite (take k prices) entry

-- THE STATEMENTS
pub record RoundTripsForC : Type 0 where
  -- "an accepted file, read and then written, is the same bytes": figures and tables as the reader left them, written into any place that is long enough
  pub crr_grid_read_then_written : (s ls₀ : List ℕ) (fs₀ : List ℤ) → Bytes s → (ls : List ℕ) (fs : List ℤ) (nodes constraints form : Lent ℕ)
      → ReadsGridForC (read_grid_call s ls₀ fs₀) 0 ls fs nodes constraints form → (place : List ℕ) → length s ≤ length place
      → (number : ℕ) (exit : List ℕ) (bytes : Lent ℕ)
      → WritesGridForC (write_grid_call (form_of (after form)) (after nodes) (after constraints) ls fs place) number exit bytes
      → WrittenForC s place number exit bytes
  pub crr_book_read_then_written : (n : ℕ) (s entry : List ℕ) → Bytes s → (table : List ℕ) (contracts form : Lent ℕ)
      → ReadsBookForC (read_book_call n s entry) 0 table contracts form → (place : List ℕ) → length s ≤ length place → (number : ℕ) (exit : List ℕ) (bytes : Lent ℕ)
      → WritesBookForC (write_book_call (form_of (after form)) n (after contracts) table place) number exit bytes → WrittenForC s place number exit bytes
  pub crr_prices_read_then_written : (k : ℕ) (s entry : List ℕ) → Bytes s → (table : List ℕ) (period : Lent ℕ)
      → ReadsPricesForC (read_prices_call k s entry) 0 table period → (place : List ℕ) → length s ≤ length place → (number : ℕ) (exit : List ℕ) (bytes : Lent ℕ)
      → WritesPricesForC (write_prices_call (after period) k table place) number exit bytes → WrittenForC s place number exit bytes
  -- "a grid, book or price list written and then read is the same": the first bytes of the writer's place, as many as it gives, read into any tables that are
  -- long enough
  pub crr_grid_written_then_read : (form n k : ℕ) (limits : List ℕ) (factors : List ℤ) (place exit : List ℕ) (bytes : Lent ℕ)
      → WritesGridForC (write_grid_call (form_of form) n k limits factors place) 0 exit bytes → (ls₀ : List ℕ) (fs₀ : List ℤ) → k ≤ length ls₀ → n * k ≤ length fs₀
      → (number : ℕ) (ls : List ℕ) (fs : List ℤ) (nodes constraints told : Lent ℕ)
      → ReadsGridForC (read_grid_call (take (after bytes) exit) ls₀ fs₀) number ls fs nodes constraints told
      → GridForC form n k limits factors ls₀ fs₀ number ls fs nodes constraints told
  pub crr_book_written_then_read : (form n m : ℕ) (rows place exit : List ℕ) (bytes : Lent ℕ)
      → WritesBookForC (write_book_call (form_of form) n m rows place) 0 exit bytes → (entry : List ℕ) → contract_cells * m ≤ length entry
      → (number : ℕ) (table : List ℕ) (contracts told : Lent ℕ) → ReadsBookForC (read_book_call n (take (after bytes) exit) entry) number table contracts told
      → BookForC form m rows entry number table contracts told
  pub crr_prices_written_then_read : (t k : ℕ) (prices place exit : List ℕ) (bytes : Lent ℕ)
      → WritesPricesForC (write_prices_call t k prices place) 0 exit bytes → (entry : List ℕ) → k ≤ length entry
      → (number : ℕ) (table : List ℕ) (period : Lent ℕ) → ReadsPricesForC (read_prices_call k (take (after bytes) exit) entry) number table period
      → PricesForC t k prices entry number table period
