-- Files taken one after the other: a text from what a reader gave, or the refusal's line.
use mathlib.Core.Path.{◌≡◌, ap}
use mathlib.Core.List.{List}
use Prim.Native.Nat.{ℕ}
use lib.ListN.{length, take}
use lib.IntN.{ℤ}
use Rattle.tariff.specs.declared.contracts.Contract.{Contract}
use Rattle.tariff.specs.declared.contracts.Period.{Period}
use Rattle.tariff.specs.declared.refusals.Refusal.{Refusal}
use Rattle.std.specs.Prelude.{Err}
use Rattle.tariff.specs.Refusals.{passed}
use Rattle.tariff.specs.Units.{Grid, grid_of, max_constraints}
use Rattle.tariff.specs.ContractRules.{period_of}
use Rattle.tariff.specs.Refusals.{first}
use Rattle.layouts.specs.BookFile.{book_in}
use Rattle.grid_rules.specs.ReadGrid.{read_grid_call, capped_checks, ReadsWithin, program_bytes, program_factors}
use Rattle.grid_rules.proofs.Taken.{GridTaken, program_room}
use Rattle.book_rules.specs.BookChecks.{book_checks}
use Rattle.price_rules.specs.ReadPrices.{read_prices_call, price_file_checks, ReadsPrices}
use Rattle.price_rules.proofs.Taken.{PricesTaken, room-enough as table-enough}
use Rattle.text_format.specs.Ascii.{ascii}
use Rattle.text_format.specs.RefusedLine.{refused_line_of}
use Rattle.text_format.proofs.Answering.{refused_line}
use Rattle.text_files.specs.WithFiles.{with_grid, with_book, with_prices}

-- ---- the grid, read into the program's tables

module _ (s : List ℕ) (text : Grid → List ℕ) where
  pub grid-refused : (ls₀ : List ℕ) (fs₀ : List ℤ) → length ls₀ ≡ max_constraints → length fs₀ ≡ program_factors
      → (r : Refusal) (ls : List ℕ) (fs : List ℤ) → ReadsWithin program_bytes (read_grid_call s ls₀ fs₀) (Err r) ls fs → with_grid s text ≡ refused_line_of (ascii "grid") r
  unfolding with_grid
  grid-refused ls₀ fs₀ cells places r ls fs h =
      refused_line (first (capped_checks program_bytes s)) _ r (rw (program_room s ls₀ fs₀ cells places) at h.values-given) (ascii "grid") _

  pub grid-text : (n k : ℕ) (ls : List ℕ) (fs : List ℤ) → GridTaken (capped_checks program_bytes s) s n k ls fs → with_grid s text ≡ text (grid_of n k ls fs)
  unfolding with_grid
  grid-text n k ls fs t = rw t.passes (ap text t.grid-is)

-- ---- the book

module _ (n : ℕ) (s : List ℕ) (text : List Contract → List ℕ) where
  pub book-refused : (r : Refusal) → first (book_checks n s) ≡ Err r → with_book n s text ≡ refused_line_of (ascii "book") r
  unfolding with_book
  book-refused r e = rw e

  pub book-text : first (book_checks n s) ≡ passed → with_book n s text ≡ text (book_in s)
  unfolding with_book
  book-text e = rw e

-- ---- the prices, read into the longest table

module _ (k : ℕ) (s : List ℕ) (text : Period → List ℕ → List ℕ) where
  pub prices-refused : (table₀ : List ℕ) → length table₀ ≡ max_constraints → (r : Refusal) (table : List ℕ) → ReadsPrices (read_prices_call k s table₀) (Err r) table
      → with_prices k s text ≡ refused_line_of (ascii "prices") r
  unfolding with_prices
  prices-refused table₀ cells r table h =
      refused_line (first (price_file_checks k s)) _ r (rw (table-enough k s table₀ cells) at h.period-given) (ascii "prices") _

  pub prices-text : (t : ℕ) (table : List ℕ) → PricesTaken k s t table → with_prices k s text ≡ text (period_of t) (take k table)
  unfolding with_prices
  prices-text t table p = rw (p.passes, p.period-is, p.prices-are)
