-- What the canonical form of an accepted book keeps of the book.
use mathlib.Core.List.{List}
use Prim.Native.Nat.{ℕ}
use Rattle.tariff.specs.declared.contracts.Period.{Period}
use Rattle.tariff.specs.declared.processes.Process.{Process}
use Rattle.tariff.specs.Units.{Grid}
use Rattle.tariff.specs.ContractRules.{of_period}
use Rattle.layouts.specs.BookFile.{book_in}
use Rattle.test_rules.specs.Theorems.{SameTest}
use Rattle.test_rules.proofs.Figures.{same_test}
use Rattle.canonical_rules.specs.Canonical.{canonical, canonical_file}
use Rattle.canonical_rules.specs.Theorems.{AcceptedFor, SamePayments}
use Rattle.canonical_rules.proofs.Books.{book-five, canonical-is_a_book}
use Rattle.canonical_rules.proofs.Surviving.{flows-kept, total_kept, same_payments}

module _ (n : ℕ) (s : List ℕ) (ok : AcceptedFor n s) (g : Grid) (process : Process) (t : Period) where
  pub verdicts_survive : SameTest g process (of_period t (book_in (canonical_file s))) (of_period t (book_in s))
  verdicts_survive =
      rw (canonical-is_a_book n s ok).rows
      (same_test g process (of_period t (canonical (book_in s))) (of_period t (book_in s)) (flows-kept g.factors t (book_in s) (book-five n s ok)))

  pub totals-survive : SamePayments g process (of_period t (book_in (canonical_file s))) (of_period t (book_in s))
  totals-survive =
      rw (canonical-is_a_book n s ok).rows
      (same_payments g process (of_period t (canonical (book_in s))) (of_period t (book_in s)) (total_kept g.factors t (book_in s) (book-five n s ok)))
