-- Writing the hour statement of a grid's, a book's and a price file into lent bytes (document 01, "The hour statement").
use Rattle.std.specs.Prelude.{List, [], ◌∷◌, ℕ, length}
use Rattle.lists.specs.Lent.{Lent, before, after}
use Rattle.tariff.specs.Refusals.{Checked}
use Rattle.tariff.specs.Refusals.{Check, first}
use Rattle.tariff.specs.Checks.{short_table}
use Rattle.layouts.specs.Writing.{WriteAnswer}
use Rattle.layouts.specs.Writing.{Writes, WritesForC}
use Rattle.text_files.specs.WithFiles.{with_grid, with_book, with_prices}
use Rattle.text_statement_lines.specs.Lines.{lines, longest_statement}

-- the text for every three files
unfoldable pub statement : List ℕ → List ℕ → List ℕ → List ℕ
statement grid_file book_file price_file =
    with_grid grid_file (λ g. with_book g.factors.nodes book_file (λ book. with_prices g.factors.constraints price_file (λ t p. lines g.factors p t book)))

-- the three files, and the place for the text as it is at entry
pub record StatementCall : Type 0 where
  pub grid : List ℕ
  pub book : List ℕ
  pub prices : List ℕ
  pub place : List ℕ

abbrev pub statement_call : List ℕ → List ℕ → List ℕ → List ℕ → StatementCall
statement_call grid book prices place = record { grid = grid; book = book; prices = prices; place = place }

module _ (q : StatementCall) where
  -- 9 for the place alone: a file that is turned down is told by the text
  unfoldable pub statement_checks : List Check
  statement_checks = short_table (length q.place) longest_statement ∷ []

  abbrev pub statement_checked : Checked
  statement_checked = first statement_checks

  abbrev pub statement_written : List ℕ
  statement_written = statement q.grid q.book q.prices

-- the promise: the answer, and the place at exit
abbrev pub WritesStatement : StatementCall → WriteAnswer → List ℕ → Type 0
WritesStatement q answer exit = Writes (statement_checked q) (statement_written q) q.place answer exit

abbrev pub WritesStatementForC : StatementCall → ℕ → List ℕ → Lent ℕ → Type 0
WritesStatementForC q number exit bytes = WritesForC (statement_checked q) (statement_written q) q.place (before bytes) number exit (after bytes)
