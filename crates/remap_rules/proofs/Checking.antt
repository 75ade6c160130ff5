-- Remapping's checks, one part after the other.
use mathlib.Core.Path.{◌≡◌, ◌∙◌}
use mathlib.Core.List.{List, [], ◌∷◌, ◌++◌}
use Prim.Native.Nat.{◌≤◌, ◌<◌}
use borrow.Author.Tests.{lt-ltb, le-ltb}
use lib.ListN.{length}
use Rattle.tariff.specs.declared.refusals.Refusal.{Refusal}
use Rattle.tariff.specs.declared.refusals.Refusal.TheVariants.{ShortTable}
use Rattle.std.specs.Prelude.{Err}
use Rattle.tariff.specs.Refusals.{passed}
use Rattle.tariff.specs.Refusals.{Check, first}
use Rattle.tariff.specs.Checks.{short_table}
use Rattle.tariff.proofs.Checks.{first-refuses, last-passes, append_refuses, append_passes}
use Rattle.layouts.specs.BookFile.{book_bytes_of, contract_count_in, book_form_in}
use Rattle.book_rules.specs.BookChecks.{own_checks}
use Rattle.book_rules.proofs.Accepted.{own_accepted}
use Rattle.remap_rules.specs.RemapBook.{RemapBookCall, remap_book_checks, remap_book_checked}
use Rattle.remap_rules.specs.Inner.{list_checks}

module _ (q : RemapBookCall) where
  pub book-refuses : (r : Refusal) → first (own_checks q.nodes q.book) ≡ Err r → remap_book_checked q ≡ Err r
  unfolding remap_book_checks own_checks
  book-refuses r e = append_refuses (own_checks q.nodes q.book) _ r e

  module _ (accepted : first (own_checks q.nodes q.book) ≡ passed) where
    abbrev last : List Check
    last = short_table (length q.place) (book_bytes_of (book_form_in q.book) (contract_count_in q.book)) ∷ []

    lists-next : remap_book_checked q ≡ first (list_checks (book_form_in q.book) q.nodes q.olds q.news ++ last)
    unfolding remap_book_checks list_checks own_checks
    lists-next = append_passes (own_checks q.nodes q.book) _ accepted

    pub lists-refuse : (r : Refusal) → first (list_checks (book_form_in q.book) q.nodes q.olds q.news) ≡ Err r → remap_book_checked q ≡ Err r
    lists-refuse r e = lists-next ∙ append_refuses (list_checks (book_form_in q.book) q.nodes q.olds q.news) last r e

    -- an accepted book has the bytes that its count says
    module _ (listed : first (list_checks (book_form_in q.book) q.nodes q.olds q.news) ≡ passed) where
      pub no_room : length q.place < length q.book → remap_book_checked q ≡ Err ShortTable
      no_room h =
          lists-next ∙ append_passes (list_checks (book_form_in q.book) q.nodes q.olds q.news) last listed
          ∙ first-refuses _ _ (lt-ltb (length q.place) (book_bytes_of (book_form_in q.book) (contract_count_in q.book)) (rw (← (own_accepted q.nodes q.book accepted).size) h))

      pub room : length q.book ≤ length q.place → remap_book_checked q ≡ passed
      room h =
          lists-next ∙ append_passes (list_checks (book_form_in q.book) q.nodes q.olds q.news) last listed
          ∙ last-passes _ (le-ltb (length q.place) (book_bytes_of (book_form_in q.book) (contract_count_in q.book)) (rw (← (own_accepted q.nodes q.book accepted).size) h))
