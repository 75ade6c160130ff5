-- Writing the market's view of a book (document 02, paper 10).
use Rattle.std.specs.Prelude.{List, [], ◌∷◌, ◌++◌, ℕ, length}
use Rattle.lists.specs.Lent.{Lent, before, after}
use Rattle.tariff.specs.Refusals.{Checked}
use Rattle.tariff.specs.Refusals.{Check, first}
use Rattle.tariff.specs.Checks.{short_table}
use Rattle.layouts.specs.Writing.{WriteAnswer}
use Rattle.layouts.specs.BookFile.{book_bytes_of, contract_count_in, book_form_in}
use Rattle.layouts.specs.Writing.{Writes, WritesForC}
use Rattle.book_rules.specs.BookChecks.{own_checks}
use Rattle.view_rules.specs.Views.{market_file}

-- the node count, the book's bytes, and the place for the view's bytes as it is at entry
pub record MarketViewCall : Type 0 where
  pub nodes : ℕ
  pub book : List ℕ
  pub place : List ℕ

abbrev pub market_view_call : ℕ → List ℕ → List ℕ → MarketViewCall
market_view_call n book place = record { nodes = n; book = book; place = place }

module _ (q : MarketViewCall) where
  -- "after the book's own checks, 9 last"
  unfoldable pub market_view_checks : List Check
  market_view_checks = own_checks q.nodes q.book ++ short_table (length q.place) (book_bytes_of (book_form_in q.book) (contract_count_in q.book)) ∷ []

  abbrev pub market_view_checked : Checked
  market_view_checked = first market_view_checks

-- the promise: the answer, and the place at exit
abbrev pub WritesMarketView : MarketViewCall → WriteAnswer → List ℕ → Type 0
WritesMarketView q answer exit = Writes (market_view_checked q) (market_file q.book) q.place answer exit

abbrev pub WritesMarketViewForC : MarketViewCall → ℕ → List ℕ → Lent ℕ → Type 0
WritesMarketViewForC q number exit bytes = WritesForC (market_view_checked q) (market_file q.book) q.place (before bytes) number exit (after bytes)
