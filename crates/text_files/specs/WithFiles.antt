-- Document 01, "The hour statement": "On a refusal the only line is `refused`, then grid, book or prices, then the number, commas between; the files are taken
-- in that order." A text is what follows from a file that is accepted, else the refusal's line.
use Rattle.std.specs.Prelude.{List, ℕ}
use Rattle.tariff.specs.declared.contracts.Contract.{Contract}
use Rattle.tariff.specs.declared.contracts.Period.{Period}
use Rattle.tariff.specs.Units.{Grid}
use Rattle.tariff.specs.ContractRules.{period_of}
use Rattle.tariff.specs.Refusals.{first, decided}
use Rattle.layouts.specs.GridFile.{grid_in}
use Rattle.layouts.specs.BookFile.{book_in}
use Rattle.layouts.specs.PriceFile.{period_in, prices_in}
use Rattle.grid_rules.specs.ReadGrid.{capped_checks, program_bytes}
use Rattle.book_rules.specs.BookChecks.{book_checks}
use Rattle.price_rules.specs.ReadPrices.{price_file_checks}
use Rattle.text_format.specs.Ascii.{ascii}
use Rattle.text_format.specs.RefusedLine.{refused_line_of}

-- "The program takes grids up to 32 KiB; a longer one draws 5 if no earlier check does." (document 02, request 9)
unfoldable pub with_grid : List ℕ → (Grid → List ℕ) → List ℕ
with_grid file text = decided (first (capped_checks program_bytes file)) (refused_line_of (ascii "grid")) (text (grid_in file))

-- for a grid of n nodes
unfoldable pub with_book : ℕ → List ℕ → (List Contract → List ℕ) → List ℕ
with_book n file text = decided (first (book_checks n file)) (refused_line_of (ascii "book")) (text (book_in file))

-- for a grid of k constraints
unfoldable pub with_prices : ℕ → List ℕ → (Period → List ℕ → List ℕ) → List ℕ
with_prices k file text = decided (first (price_file_checks k file)) (refused_line_of (ascii "prices")) (text (period_of (period_in file)) (prices_in k file))
