-- The checks of a holder's view, one part after the other.
use mathlib.Core.Path.{◌≡◌, refl, ◌∙◌}
use mathlib.Core.Bool.{true, false}
use mathlib.Core.List.{List, [], ◌∷◌}
use Prim.Native.Nat.{ℕ, ◌≤◌, ◌<◌}
use borrow.Author.Tests.{lt-ltb, le-ltb, ltb-false}
use lib.Dec.{ltb}
use lib.ListN.{length}
use Rattle.tariff.specs.declared.refusals.Refusal.{Refusal}
use Rattle.tariff.specs.declared.refusals.Refusal.TheVariants.{HolderRange, ShortTable}
use Rattle.std.specs.Prelude.{Err}
use Rattle.tariff.specs.Refusals.{passed}
use Rattle.tariff.specs.Units.{max_holder}
use Rattle.tariff.specs.Refusals.{Check, first}
use Rattle.tariff.specs.Checks.{holder_range, short_table}
use Rattle.tariff.proofs.Checks.{first_passes, first-refuses, last-passes, append_refuses, append_passes, passed_append, passed_cons}
use Rattle.layouts.specs.BookFile.{book_form_in, contract_count_in}
use Rattle.book_rules.specs.BookChecks.{own_checks}
use Rattle.view_rules.specs.Views.{holder_view}
use Rattle.view_rules.specs.HolderView.{HolderViewCall, holder_view_checks, holder_view_checked}
use Rattle.view_holder.specs.Inner.{rows_to}

-- the view by the rows of all contracts
pub view_rows : (h : ℕ) (s : List ℕ) → holder_view h s ≡ rows_to (book_form_in s) h s (contract_count_in s)
unfolding holder_view rows_to
view_rows h s = refl

module _ (q : HolderViewCall) where
  abbrev last : List Check
  last = short_table (length q.place) (length (holder_view q.holder q.book)) ∷ []

  pub book-refuses : (r : Refusal) → first (own_checks q.nodes q.book) ≡ Err r → holder_view_checked q ≡ Err r
  unfolding holder_view_checks
  book-refuses r e = append_refuses (own_checks q.nodes q.book) (holder_range q.holder ∷ last) r e

  module _ (accepted : first (own_checks q.nodes q.book) ≡ passed) where
    holder-next : holder_view_checked q ≡ first (holder_range q.holder ∷ last)
    unfolding holder_view_checks
    holder-next = append_passes (own_checks q.nodes q.book) (holder_range q.holder ∷ last) accepted

    pub no_holder : max_holder < q.holder → holder_view_checked q ≡ Err HolderRange
    no_holder h = holder-next ∙ first-refuses _ _ (lt-ltb max_holder q.holder h)

    module _ (few : q.holder ≤ max_holder) where
      pub no_room : ltb (length q.place) (length (holder_view q.holder q.book)) ≡ true → holder_view_checked q ≡ Err ShortTable
      no_room h = holder-next ∙ first_passes _ _ (le-ltb max_holder q.holder few) ∙ first-refuses _ _ h

      pub room : ltb (length q.place) (length (holder_view q.holder q.book)) ≡ false → holder_view_checked q ≡ passed
      room h = holder-next ∙ first_passes _ _ (le-ltb max_holder q.holder few) ∙ last-passes _ h

  -- what holds where no check refuses
  module _ (pass : holder_view_checked q ≡ passed) where
    pub accepted-of : first (own_checks q.nodes q.book) ≡ passed
    unfolding holder_view_checks
    accepted-of = (passed_append (own_checks q.nodes q.book) (holder_range q.holder ∷ last) pass).0

    pub room_of : length (holder_view q.holder q.book) ≤ length q.place
    unfolding holder_view_checks
    room_of = ltb-false (length q.place) _ (passed_cons _ _ (passed_cons _ _ (passed_append (own_checks q.nodes q.book) (holder_range q.holder ∷ last) pass).1).1).0
