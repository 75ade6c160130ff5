-- What two calls give: the market's on books that differ in holders alone, a holder's on books where that holder has the same.
use mathlib.Core.Path.{◌≡◌, sym, ◌∙◌}
use mathlib.Core.List.{List, [], ◌∷◌, flat_map}
use Prim.Native.Nat.{ℕ}
use lib.ListN.{length}
use Rattle.std.specs.Prelude.{Err}
use Rattle.tariff.specs.Refusals.{passed}
use Rattle.tariff.specs.Refusals.{first, decided}
use Rattle.tariff.specs.Checks.{holder_range, short_table}
use Rattle.tariff.proofs.Checks.{first-append}
use Rattle.layouts.specs.Writing.{WriteAnswer}
use Rattle.layouts.specs.BookFile.{book_form_in}
use Rattle.book_rules.specs.BookChecks.{own_checks}
use Rattle.view_rules.specs.Views.{held_in_book, view_row, market_file, holder_view}
use Rattle.view_rules.specs.MarketView.{market_view_call, market_view_checked, WritesMarketView}
use Rattle.view_rules.specs.HolderView.{holder_view_call, holder_view_checks, holder_view_checked, WritesHolderView}
use Rattle.view_rules.specs.Theorems.{OnlyHoldersDiffer, Alike}
use Rattle.view_rules.proofs.Alike.{alike}
use Rattle.view_rules.proofs.Market.{same_market_checks, passed_market}

pub market_blind : (n : ℕ) (s t e f : List ℕ) (a b : WriteAnswer) (x y : List ℕ) → OnlyHoldersDiffer s t → length e ≡ length f
    → WritesMarketView (market_view_call n s e) a x → WritesMarketView (market_view_call n t f) b y → Alike e f a b x y
market_blind n s t e f a b x y d l =
    alike (market_view_checked (market_view_call n s e)) (market_view_checked (market_view_call n t f)) (market_file s) (market_file t) e f a b x y (same_market_checks s t d n e f l) (passed_market s t d n e)

module _ (n h : ℕ) (s t : List ℕ) (form : book_form_in s ≡ book_form_in t) (held : held_in_book h s ≡ held_in_book h t) where
  same_view : holder_view h s ≡ holder_view h t
  unfolding holder_view
  same_view = λ k. flat_map (view_row (form k)) (held k)

  module _ (accepted-s : first (own_checks n s) ≡ passed) (accepted-t : first (own_checks n t) ≡ passed) (e f : List ℕ) (l : length e ≡ length f) where
    same_holder_checks : holder_view_checked (holder_view_call n s h e) ≡ holder_view_checked (holder_view_call n t h f)
    unfolding holder_view_checks
    same_holder_checks =
        first-append (own_checks n s) (holder_range h ∷ short_table (length e) (length (holder_view h s)) ∷ [])
        ∙ (λ k. decided ((accepted-s ∙ sym accepted-t) k) Err (first (holder_range h ∷ short_table (l k) (length (same_view k)) ∷ [])))
        ∙ sym (first-append (own_checks n t) (holder_range h ∷ short_table (length f) (length (holder_view h t)) ∷ []))

    pub holder-calls : (a b : WriteAnswer) (x y : List ℕ) → WritesHolderView (holder_view_call n s h e) a x → WritesHolderView (holder_view_call n t h f) b y → Alike e f a b x y
    holder-calls a b x y =
        alike (holder_view_checked (holder_view_call n s h e)) (holder_view_checked (holder_view_call n t h f)) (holder_view h s) (holder_view h t) e f a b x y same_holder_checks (λ p. same_view)
