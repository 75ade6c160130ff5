-- Writing the canonical form of a book (document 02, paper 11). What the form is stands in Canonical.antt.
use Rattle.std.specs.Prelude.{List, [], ◌∷◌, ◌++◌, ℕ, length}
use Rattle.lists.specs.Lent.{Lent, before, after}
use Rattle.tariff.specs.Refusals.{Checked}
use Rattle.tariff.specs.Refusals.{Check, first}
use Rattle.tariff.specs.Checks.{short_table}
use Rattle.layouts.specs.Writing.{WriteAnswer}
use Rattle.layouts.specs.Writing.{Writes, WritesForC}
use Rattle.book_rules.specs.BookChecks.{own_checks}
use Rattle.view_rules.specs.MarketView.{MarketViewCall, market_view_call}
use Rattle.canonical_rules.specs.Canonical.{canonical_file}

-- the call is that of the market's view, with the place for the canonical book's bytes
abbrev pub CanonicalBookCall : Type 0
CanonicalBookCall = MarketViewCall

abbrev pub canonical_book_call : ℕ → List ℕ → List ℕ → CanonicalBookCall
canonical_book_call = market_view_call

module _ (q : CanonicalBookCall) where
  -- "Only 9 follows the book's own checks.": for a place shorter than the form
  unfoldable pub canonical_book_checks : List Check
  canonical_book_checks = own_checks q.nodes q.book ++ short_table (length q.place) (length (canonical_file q.book)) ∷ []

  abbrev pub canonical_book_checked : Checked
  canonical_book_checked = first canonical_book_checks

-- the promise: the answer, and the place at exit
abbrev pub WritesCanonicalBook : CanonicalBookCall → WriteAnswer → List ℕ → Type 0
WritesCanonicalBook q answer exit = Writes (canonical_book_checked q) (canonical_file q.book) q.place answer exit

abbrev pub WritesCanonicalBookForC : CanonicalBookCall → ℕ → List ℕ → Lent ℕ → Type 0
WritesCanonicalBookForC q number exit bytes = WritesForC (canonical_book_checked q) (canonical_file q.book) q.place (before bytes) number exit (after bytes)
