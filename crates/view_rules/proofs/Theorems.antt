-- THE THEOREMS of the views (document 02, paper 10). Statements only: the proofs are in Holders, Blind, Market, Rows and Splits.
use mathlib.Core.Path.{◌≡◌}
use mathlib.Core.List.{List, ◌++◌}
use Prim.Native.Nat.{ℕ, ◌<◌}
use lib.ListN.{length, take, drop}
use Rattle.bits.specs.Bits.{digits, Bytes}
use Rattle.bits.proofs.Bytes.{bytes_below}
use Rattle.tariff.specs.Refusals.{passed}
use Rattle.tariff.specs.Refusals.{first}
use Rattle.layouts.specs.Writing.{WriteAnswer}
use Rattle.layouts.specs.Forms.{record_bytes}
use Rattle.layouts.specs.BookFile.{book_bytes_of, contract_count_in, book_form_in, contract_at}
use Rattle.book_rules.specs.BookChecks.{own_checks}
use Rattle.view_rules.specs.Views.{numbered, held_in_book, view_row}
use Rattle.view_rules.specs.MarketView.{market_view_call, WritesMarketView}
use Rattle.view_rules.specs.HolderView.{holder_view_call, WritesHolderView}
use Rattle.view_rules.specs.Theorems.{OnlyHoldersDiffer, Alike, MarketBook, ViewsSplit}
use Rattle.view_rules.proofs.Holders.{own_alike}
use Rattle.view_rules.proofs.Blind.{holder-calls}
use Rattle.view_rules.proofs.Rows.{own_row_accepted}
use Rattle.view_rules.proofs.Splits as S
use Rattle.view_rules.proofs.Blind as B
use Rattle.view_rules.proofs.Market as M

-- no check of a book looks at a holder, on any bytes at all
pub holders_never_refuse : (n : ℕ) (s t : List ℕ) → OnlyHoldersDiffer s t → first (own_checks n s) ≡ first (own_checks n t)
holders_never_refuse n s t differ = own_alike s t differ n

-- "Into places of equal length, for one node count, books that differ only in holder numbers give the market equal bytes, refusals included": of every two
-- strings of bytes, what two calls give that keep the promise
pub market_blind : (n : ℕ) (s t e f : List ℕ) (a b : WriteAnswer) (x y : List ℕ) → OnlyHoldersDiffer s t → length e ≡ length f
    → WritesMarketView (market_view_call n s e) a x → WritesMarketView (market_view_call n t f) b y → Alike e f a b x y
market_blind = B.market_blind

module _ (n h : ℕ) (s t : List ℕ) (accepted-s : first (own_checks n s) ≡ passed) (accepted-t : first (own_checks n t) ≡ passed) where
  -- the view depends on the width and on the holder's contracts with their numbers, not on the book's length
  pub holder-blind : book_form_in s ≡ book_form_in t → held_in_book h s ≡ held_in_book h t → (e f : List ℕ) → length e ≡ length f → (a b : WriteAnswer) (x y : List ℕ)
      → WritesHolderView (holder_view_call n s h e) a x → WritesHolderView (holder_view_call n t h f) b y → Alike e f a b x y
  holder-blind width held = holder-calls n h s t width held accepted-s accepted-t

  -- "There too, holder views of two accepted books of one width agree whenever that holder's contracts, their numbers and the book's length agree."
  pub holder-views_agree : book_form_in s ≡ book_form_in t → held_in_book h s ≡ held_in_book h t → length s ≡ length t → (e f : List ℕ) → length e ≡ length f
      → (a b : WriteAnswer) (x y : List ℕ) → WritesHolderView (holder_view_call n s h e) a x → WritesHolderView (holder_view_call n t h f) b y → Alike e f a b x y
  holder-views_agree width held as_long = holder-blind width held

-- the market's view of an accepted book is an accepted book of the same form and length, with no holder and nothing else changed; again it is itself
pub market_is_a_book : (n : ℕ) (s : List ℕ) → first (own_checks n s) ≡ passed → MarketBook n s
market_is_a_book = M.market_is_a_book

-- the rows of all holders together are the book's contracts with their numbers, each once, and each holder's are that holder's alone
pub view_splits : (s : List ℕ) → ViewsSplit s
view_splits = S.view_splits

-- "and then the contract's own bytes": row i is the two bytes of i and the bytes that contract i has in the book
pub own_bytes : (n : ℕ) (s : List ℕ) → Bytes s → first (own_checks n s) ≡ passed → (i : ℕ) → i < contract_count_in s
    → view_row (book_form_in s) (numbered i (contract_at s i)) ≡ digits 8 2 i ++ take (record_bytes (book_form_in s)) (drop (book_bytes_of (book_form_in s) i) s)
own_bytes n s bytes = own_row_accepted n s (bytes_below s bytes)
