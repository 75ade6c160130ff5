-- THE THEOREMS on books of before and of both forms (document 02, papers 6 and 9), for every node count and every string of bytes. Statements only: the proofs
-- are in Former.antt and Making.antt here and in tariff.
use mathlib.Core.Path.{◌≡◌, sym, ap, ◌∙◌}
use mathlib.Core.Logic.{◌≢◌}
use mathlib.Core.Bool.{Bool, true, false, cond, ◌||◌}
use mathlib.Core.List.{List, ◌∷◌, map}
use Prim.Native.Nat.{ℕ, ◌≤◌}
use native.Mathlib.Omega.{arith}
use borrow.Author.Tests.{le-ltb, ne_eqb}
use lib.Dec.{ltb, eqb}
use lib.ListN.{length}
use Rattle.lists.specs.Lists.{Each}
use Rattle.tariff.specs.declared.contracts.Contract.{Contract}
use Rattle.std.specs.Prelude.{Ok}
use Rattle.tariff.specs.Refusals.{passed}
use Rattle.tariff.specs.Units.{max_contracts}
use Rattle.tariff.specs.Refusals.{first, number_after}
use Rattle.tariff.specs.Checks.{node_count}
use Rattle.tariff.specs.Former.{by_number, without, former_first}
use Rattle.tariff.proofs.Checks.{first_passes}
use Rattle.tariff.proofs.Answers.{none-refused}
use Rattle.tariff.proofs.Former.{first-number, not_missed}
use Rattle.layouts.specs.declared.forms.Form.TheVariants.{Narrow, Wide}
use Rattle.layouts.specs.BookFile.{book_file, contract_count_in, book_spare_in, book_in}
use Rattle.layouts.specs.BookTable.{ContractFits}
use Rattle.layouts.proofs.BookFile.{form-narrow, book-written, fits_wider}
use Rattle.book_rules.specs.BookChecks.{book_checks}
use Rattle.book_rules.specs.Former.{former_book_checks, former_reading_checks, former_book_in}
use Rattle.book_rules.proofs.Former.{book-as_before, values-as_before, old-number}
use Rattle.book_rules.proofs.Making.{checks_of_file}

-- ---- paper 9: "Old readers must refuse every wide file."

module _ (n : ℕ) (s : List ℕ) (wide : book_spare_in s ≡ 63) where
  pub old-book_reader_refuses_wide : former_first (former_reading_checks n s) ≢ 0
  old-book_reader_refuses_wide e = some (eqb n 0 || ltb 200 n) (ltb (length s) 2) (ltb 1000 (contract_count_in s)) (sym (old-number n s wide) ∙ e)
    where
      some : (a b c : Bool) → cond {A = ℕ} a 2 (cond b 1 (cond c 10 4)) ≡ 0 → ⊥
      some true b c e = omega arith
      some false true c e = omega arith
      some false false true e = omega arith
      some false false false e = omega arith

  -- by 4, where no earlier check refuses
  pub old-book_reader_draws_4 : 1 ≤ n → n ≤ 200 → 2 ≤ length s → contract_count_in s ≤ 1000 → former_first (former_reading_checks n s) ≡ 4
  old-book_reader_draws_4 some few long count =
      old-number n s wide ∙ rw (ne_eqb n 0 (λ z. omega arith), le-ltb 200 n few, le-ltb (length s) 2 long, le-ltb 1000 (contract_count_in s) count)

-- ---- paper 6: "Books read before give what they gave"; paper 9: those that are not wide

module _ (n : ℕ) (s : List ℕ) (narrow : book_spare_in s ≢ 63) where
  -- the list of checks is the former one with 12 taken out, and nothing else
  pub checks_are_the_former_without_12 : map by_number (book_checks n s) ≡ without 12 (former_book_checks n s)
  checks_are_the_former_without_12 = book-as_before n s (form-narrow s narrow)

  -- a book that did not draw 12 draws what it drew
  pub books_as_before : former_first (former_book_checks n s) ≢ 12 → number_after (first (book_checks n s)) ≡ former_first (former_book_checks n s)
  books_as_before other =
      first-number (book_checks n s) ∙ ap former_first checks_are_the_former_without_12 ∙ not_missed 12 (former_book_checks n s) other

  -- for a stated count of 1 to 200, so does reading it
  pub narrow-books_as_before : 1 ≤ n → n ≤ 200 → former_first (former_reading_checks n s) ≢ 12
      → number_after (first (node_count n ∷ book_checks n s)) ≡ former_first (former_reading_checks n s)
  unfolding former_first former_reading_checks
  narrow-books_as_before some few =
      rw (first_passes (node_count n) (book_checks n s) (rw (ne_eqb n 0 (λ z. omega arith)) (le-ltb 4000 n (omega arith))), ne_eqb n 0 (λ z. omega arith), le-ltb 200 n few)
      books_as_before

  -- and gives the contracts that it gave
  pub contracts-as_before : book_in s ≡ former_book_in s
  contracts-as_before = values-as_before s (form-narrow s narrow)

-- one that was accepted is accepted
pub read_before : (n : ℕ) (s : List ℕ) → 1 ≤ n → n ≤ 200 → former_first (former_reading_checks n s) ≡ 0 → first (node_count n ∷ book_checks n s) ≡ passed
read_before n s some few accepted =
    let narrow : book_spare_in s ≢ 63 = λ wide. old-book_reader_refuses_wide n s wide accepted in
    none-refused (first (node_count n ∷ book_checks n s)) (sym (narrow-books_as_before n s narrow some few (λ e. omega arith) ∙ accepted))

-- ---- paper 9: "The same test and prices hold at both widths": one book in both forms is read and checked alike

module _ (cs : List Contract) (few : length cs ≤ max_contracts) (fits : Each (ContractFits 8) cs) where
  pub both-forms_alike : (book_in (book_file Narrow cs) ≡ cs) × (book_in (book_file Wide cs) ≡ cs)
  both-forms_alike = ((book-written Narrow cs (omega arith) fits).contracts, (book-written Wide cs (omega arith) (fits_wider cs fits)).contracts)

  pub both-forms_checked_alike : (n : ℕ) → first (book_checks n (book_file Narrow cs)) ≡ first (book_checks n (book_file Wide cs))
  both-forms_checked_alike n = checks_of_file Narrow n cs few fits ∙ sym (checks_of_file Wide n cs few (fits_wider cs fits))
