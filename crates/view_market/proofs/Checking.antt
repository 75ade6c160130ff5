-- The checks of the market's view, one part after the other.
use mathlib.Core.Path.{◌≡◌, ◌∙◌}
use mathlib.Core.List.{List, [], ◌∷◌}
use Prim.Native.Nat.{◌≤◌, ◌<◌}
use borrow.Author.Tests.{lt-ltb, le-ltb, ltb-false}
use lib.ListN.{length}
use Rattle.tariff.specs.declared.refusals.Refusal.{Refusal}
use Rattle.tariff.specs.declared.refusals.Refusal.TheVariants.{ShortTable}
use Rattle.std.specs.Prelude.{Err}
use Rattle.tariff.specs.Refusals.{passed}
use Rattle.tariff.specs.Refusals.{Check, first}
use Rattle.tariff.specs.Checks.{short_table}
use Rattle.tariff.proofs.Checks.{first-refuses, last-passes, append_refuses, append_passes, passed_append, passed_cons}
use Rattle.layouts.specs.BookFile.{book_bytes_of, contract_count_in, book_form_in}
use Rattle.book_rules.specs.BookChecks.{own_checks}
use Rattle.book_rules.proofs.Accepted.{own_accepted}
use Rattle.view_rules.specs.MarketView.{MarketViewCall, market_view_checks, market_view_checked}

module _ (q : MarketViewCall) where
  abbrev last : List Check
  last = short_table (length q.place) (book_bytes_of (book_form_in q.book) (contract_count_in q.book)) ∷ []

  pub book-refuses : (r : Refusal) → first (own_checks q.nodes q.book) ≡ Err r → market_view_checked q ≡ Err r
  unfolding market_view_checks
  book-refuses r e = append_refuses (own_checks q.nodes q.book) last r e

  -- an accepted book has the bytes that its count says
  module _ (accepted : first (own_checks q.nodes q.book) ≡ passed) where
    pub no_room : length q.place < length q.book → market_view_checked q ≡ Err ShortTable
    unfolding market_view_checks
    no_room h =
        append_passes (own_checks q.nodes q.book) last accepted
        ∙ first-refuses _ _ (lt-ltb (length q.place) (book_bytes_of (book_form_in q.book) (contract_count_in q.book)) (rw (← (own_accepted q.nodes q.book accepted).size) h))

    pub room : length q.book ≤ length q.place → market_view_checked q ≡ passed
    unfolding market_view_checks
    room h =
        append_passes (own_checks q.nodes q.book) last accepted
        ∙ last-passes _ (le-ltb (length q.place) (book_bytes_of (book_form_in q.book) (contract_count_in q.book)) (rw (← (own_accepted q.nodes q.book accepted).size) h))

  -- what holds where no check refuses
  module _ (pass : market_view_checked q ≡ passed) where
    pub accepted-of : first (own_checks q.nodes q.book) ≡ passed
    unfolding market_view_checks
    accepted-of = (passed_append (own_checks q.nodes q.book) last pass).0

    pub room_of : book_bytes_of (book_form_in q.book) (contract_count_in q.book) ≤ length q.place
    unfolding market_view_checks
    room_of = ltb-false (length q.place) _ (passed_cons _ _ (passed_append (own_checks q.nodes q.book) last pass).1).0
