-- What paper 10 says of the views, as predicates: which books differ only in holder numbers, what two calls give alike, and how views make up a book.
use Rattle.std.specs.Prelude.{◌≡◌, ℕ, suc, ◌+◌, ◌≤◌, ◌<◌, length, take, drop, Ok, Err}
use mathlib.Core.List.{List, map, flat_map, Perm}
use Rattle.lists.specs.Lists.{Each, list_to}
use Rattle.tariff.specs.declared.contracts.Contract.{Contract}
use Rattle.tariff.specs.declared.refusals.Refusal.{Refusal}
use Rattle.tariff.specs.Refusals.{passed}
use Rattle.tariff.specs.Units.{max_holder}
use Rattle.tariff.specs.Refusals.{first}
use Rattle.layouts.specs.Writing.{WriteAnswer}
use Rattle.layouts.specs.Forms.{record_bytes}
use Rattle.layouts.specs.BookFile.{book_bytes_of, contract_count_in, book_spare_in, book_form_in, contract_in, contract_at, book_in}
use Rattle.layouts.specs.Writing.{write_outcome}
use Rattle.book_rules.specs.BookChecks.{own_checks}
use Rattle.view_rules.specs.Views.{anonymous, market_file, Numbered, numbered, held_in_book}

-- ---- "books that differ only in holder numbers", field by field: what a view hides is said without the view's own definition

pub record SameButHolder (c d : Contract) : Type 0 where
  pub same_kind : c.kind ≡ d.kind
  pub same_period_lem : c.period ≡ d.period
  pub same_source : c.source ≡ d.source
  pub same_sink : c.sink ≡ d.sink
  pub same_quantity : c.quantity ≡ d.quantity

-- any two strings of bytes, accepted or not: length, header, and all but the holder of each contract that lies whole in them
pub record OnlyHoldersDiffer (s t : List ℕ) : Type 0 where
  pub same_length : length s ≡ length t
  pub same_count : contract_count_in s ≡ contract_count_in t
  pub same_spare : book_spare_in s ≡ book_spare_in t
  pub same_else : (i : ℕ) → i < contract_count_in s → book_bytes_of (book_form_in s) i + record_bytes (book_form_in s) ≤ length s
      → SameButHolder (contract_at s i) (contract_in (book_form_in s) t i)

-- ---- two calls into the places e and f, with the answers a and b, that leave x and y there

pub record Alike (e f : List ℕ) (a b : WriteAnswer) (x y : List ℕ) : Type 0 where
  -- the refusal's number, or the length written
  pub same_answer : write_outcome a ≡ write_outcome b
  -- as many bytes as the length says are equal, whatever the places held, and the rest of each is as it was
  pub same_bytes : (m : ℕ) → a ≡ Ok m → take m x ≡ take m y
  pub rest-as_it_was : (m : ℕ) → a ≡ Ok m → (drop m x ≡ drop m e) × (drop m y ≡ drop m f)
  -- refused, both places are as they were
  pub refused_as_it_was : (r : Refusal) → a ≡ Err r → (x ≡ e) × (y ≡ f)
  -- one place is the same at exit, refused or not
  pub same_place : e ≡ f → x ≡ y

-- ---- the market's view of a book that is accepted for n nodes

pub record MarketBook (n : ℕ) (s : List ℕ) : Type 0 where
  pub accepted : first (own_checks n (market_file s)) ≡ passed
  pub same_form : book_form_in (market_file s) ≡ book_form_in s
  pub same_size : length (market_file s) ≡ length s
  pub contracts : book_in (market_file s) ≡ map anonymous (book_in s)
  -- "with every holder 0", and nothing else changed
  pub holders_0 : Each (λ (c : Contract). c.holder ≡ 0) (book_in (market_file s))
  pub differs : OnlyHoldersDiffer s (market_file s)
  -- doing it again changes nothing
  pub again : market_file (market_file s) ≡ market_file s

-- ---- the views of all holders

-- the contracts of a book with their numbers, and the rows of holder 0, then of holder 1, and so on
abbrev pub numbered_in : List ℕ → List Numbered
numbered_in s = list_to (contract_count_in s) (λ i. numbered i (contract_at s i))

abbrev pub all_held_in : List ℕ → List Numbered
all_held_in s = flat_map (λ (h : ℕ). held_in_book h s) (list_to (suc max_holder) (λ (h : ℕ). h))

pub record ViewsSplit (s : List ℕ) : Type 0 where
  -- together they are the book's contracts with their numbers, each once
  pub together : Perm (all_held_in s) (numbered_in s)
  -- and a holder's are that holder's alone
  pub own_alone : (h : ℕ) → Each (λ (r : Numbered). r.contract.holder ≡ h) (held_in_book h s)
