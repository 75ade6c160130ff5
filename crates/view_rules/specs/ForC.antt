-- Document 02, paper 10, over what the C functions promise: numbers, lengths in lent figures, and places at exit. Statements only.
use Rattle.std.specs.Prelude.{◌≡◌, List, ℕ, length, take, drop}
use Rattle.lists.specs.Lent.{Lent, before, after}
use Rattle.tariff.specs.Refusals.{passed}
use Rattle.tariff.specs.Refusals.{first}
use Rattle.layouts.specs.BookFile.{book_form_in}
use Rattle.book_rules.specs.BookChecks.{own_checks}
use Rattle.view_rules.specs.Views.{held_in_book}
use Rattle.view_rules.specs.MarketView.{market_view_call, WritesMarketViewForC}
use Rattle.view_rules.specs.HolderView.{holder_view_call, WritesHolderViewForC}
use Rattle.view_rules.specs.Theorems.{OnlyHoldersDiffer}

-- two calls into the places e and f that answer a and b, leave x and y there, and are lent the figures u and v
pub record AlikeForC (e f : List ℕ) (a b : ℕ) (x y : List ℕ) (u v : Lent ℕ) : Type 0 where
  -- 0, or the refusal's number
  pub same_number : a ≡ b
  pub same_length : a ≡ 0 → after u ≡ after v
  -- as many bytes as the length says are equal, whatever the places held, and the rest of each is as it was
  pub same_bytes : a ≡ 0 → take (after u) x ≡ take (after v) y
  pub rest-as_it_was : a ≡ 0 → (drop (after u) x ≡ drop (after u) e) × (drop (after v) y ≡ drop (after v) f)
  -- refused, places and figures are as they were
  pub refused_as_it_was : (a ≡ 0 → ⊥) → (x ≡ e) × (y ≡ f)
  pub refused_length_kept : (a ≡ 0 → ⊥) → (after u ≡ before u) × (after v ≡ before v)
  -- one place is the same at exit, refused or not
  pub same_place : e ≡ f → x ≡ y

-- THE STATEMENTS
pub record ViewsForC : Type 0 where
  -- "Into places of equal length, for one node count, books that differ only in holder numbers give the market equal bytes, refusals included."
  pub crr_market_blind : (n : ℕ) (s t e f : List ℕ) (a b : ℕ) (x y : List ℕ) (u v : Lent ℕ) → OnlyHoldersDiffer s t → length e ≡ length f
      → WritesMarketViewForC (market_view_call n s e) a x u → WritesMarketViewForC (market_view_call n t f) b y v → AlikeForC e f a b x y u v
  -- the view depends on the width and on the holder's contracts with their numbers, not on the book's length
  pub crr_holder_blind : (n h : ℕ) (s t : List ℕ) → first (own_checks n s) ≡ passed → first (own_checks n t) ≡ passed → book_form_in s ≡ book_form_in t
      → held_in_book h s ≡ held_in_book h t → (e f : List ℕ) → length e ≡ length f → (a b : ℕ) (x y : List ℕ) (u v : Lent ℕ)
      → WritesHolderViewForC (holder_view_call n s h e) a x u → WritesHolderViewForC (holder_view_call n t h f) b y v → AlikeForC e f a b x y u v
  -- "There too, holder views of two accepted books of one width agree whenever that holder's contracts, their numbers and the book's length agree."
  pub crr_holder_views_agree : (n h : ℕ) (s t : List ℕ) → first (own_checks n s) ≡ passed → first (own_checks n t) ≡ passed → book_form_in s ≡ book_form_in t
      → held_in_book h s ≡ held_in_book h t → length s ≡ length t → (e f : List ℕ) → length e ≡ length f → (a b : ℕ) (x y : List ℕ) (u v : Lent ℕ)
      → WritesHolderViewForC (holder_view_call n s h e) a x u → WritesHolderViewForC (holder_view_call n t h f) b y v → AlikeForC e f a b x y u v
