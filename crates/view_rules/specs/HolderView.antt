-- Writing a holder's view of a book (document 02, paper 10).
use Rattle.std.specs.Prelude.{List, [], ◌∷◌, ◌++◌, ℕ, length}
use Rattle.lists.specs.Lent.{Lent, before, after}
use Rattle.tariff.specs.Refusals.{Checked}
use Rattle.tariff.specs.Refusals.{Check, first}
use Rattle.tariff.specs.Checks.{holder_range, short_table}
use Rattle.layouts.specs.Writing.{WriteAnswer}
use Rattle.layouts.specs.Writing.{Writes, WritesForC}
use Rattle.book_rules.specs.BookChecks.{own_checks}
use Rattle.view_rules.specs.Views.{holder_view}

-- the node count, the book's bytes, the holder, and the place for the view's bytes as it is at entry
pub record HolderViewCall : Type 0 where
  pub nodes : ℕ
  pub book : List ℕ
  pub holder : ℕ
  pub place : List ℕ

abbrev pub holder_view_call : ℕ → List ℕ → ℕ → List ℕ → HolderViewCall
holder_view_call n book h place = record { nodes = n; book = book; holder = h; place = place }

module _ (q : HolderViewCall) where
  -- "18 comes after the book's own checks, 9 last"
  unfoldable pub holder_view_checks : List Check
  holder_view_checks = own_checks q.nodes q.book ++ holder_range q.holder ∷ short_table (length q.place) (length (holder_view q.holder q.book)) ∷ []

  abbrev pub holder_view_checked : Checked
  holder_view_checked = first holder_view_checks

-- the promise: the answer, and the place at exit
abbrev pub WritesHolderView : HolderViewCall → WriteAnswer → List ℕ → Type 0
WritesHolderView q answer exit = Writes (holder_view_checked q) (holder_view q.holder q.book) q.place answer exit

abbrev pub WritesHolderViewForC : HolderViewCall → ℕ → List ℕ → Lent ℕ → Type 0
WritesHolderViewForC q number exit bytes =
    WritesForC (holder_view_checked q) (holder_view q.holder q.book) q.place (before bytes) number exit (after bytes)
