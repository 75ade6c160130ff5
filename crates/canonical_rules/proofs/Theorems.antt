-- THE THEOREMS of the canonical form (document 02, paper 11). Statements only: each is defined by the proof that it cites.
use mathlib.Core.Path.{◌≡◌}
use mathlib.Core.Logic.{◌↔◌}
use mathlib.Core.List.{List}
use Prim.Native.Nat.{ℕ, ◌≤◌, ◌<◌}
use lib.ListN.{length}
use Rattle.lists.specs.Lists.{Each}
use Rattle.tariff.specs.declared.contracts.Contract.{Contract}
use Rattle.tariff.specs.declared.contracts.Kind.{Kind}
use Rattle.tariff.specs.declared.contracts.Period.{Period}
use Rattle.tariff.specs.declared.processes.Process.{Process}
use Rattle.tariff.specs.Units.{Grid}
use Rattle.tariff.specs.ContractRules.{of_period}
use Rattle.layouts.specs.BookFile.{book_form_in, book_in}
use Rattle.test_rules.specs.Theorems.{SameTest}
use Rattle.canonical_rules.specs.Canonical.{five_of, total_of, Filled, CanonicalOf, canonical, canonical_file}
use Rattle.canonical_rules.specs.Theorems.{FiveFits, SameFive, Sooner, AcceptedFor, CanonicalBook, SamePayments}
use Rattle.canonical_rules.proofs.Fives as F
use Rattle.canonical_rules.proofs.Unique as U
use Rattle.canonical_rules.proofs.Merging as M
use Rattle.canonical_rules.proofs.Numbers as N
use Rattle.canonical_rules.proofs.Books as B
use Rattle.canonical_rules.proofs.Kept as K

-- ---- of contracts whose holders are below 1,024 and whose ends are below 4,096

-- the rows that `canonical` gives are canonical
pub canonical-is : (cs : List Contract) → Each FiveFits cs → CanonicalOf cs (canonical cs)
canonical-is = M.canonical-is

-- and canonical rows of contracts with the same totals are the same rows
pub canonical-unique : (cs ds xs ys : List Contract) → Each FiveFits cs → Each FiveFits ds → CanonicalOf cs xs → CanonicalOf ds ys
    → ((kind : Kind) (period : Period) (holder source sink : ℕ) → total_of kind period holder source sink cs ≡ total_of kind period holder source sink ds) → xs ≡ ys
canonical-unique = U.canonical-unique

-- the five's number has the paper's order: kind, then period, holder, source, sink; and is the same exactly where all five are
pub five_orders : (a b : Contract) → FiveFits a → FiveFits b → ((five_of a < five_of b) ↔ Sooner a b) × ((five_of a ≡ five_of b) ↔ SameFive a b)
five_orders = F.five_orders

-- never more rows than there were, where each quantity is 1 to 1,000,000
pub not_longer : (cs : List Contract) → Each Filled cs → Each FiveFits cs → length (canonical cs) ≤ length cs
not_longer = N.not_longer

-- ---- of accepted books

pub canonical-is_a_book : (n : ℕ) (s : List ℕ) → AcceptedFor n s → CanonicalBook n s
canonical-is_a_book = B.canonical-is_a_book

-- "Two accepted books of the same width have equal bytes in this form exactly when, for each such five, total quantity agrees", whatever their node counts
pub same_canonical : (n m : ℕ) (s t : List ℕ) → AcceptedFor n s → AcceptedFor m t → book_form_in s ≡ book_form_in t → (canonical_file s ≡ canonical_file t)
    ↔ ((kind : Kind) (period : Period) (holder source sink : ℕ) → total_of kind period holder source sink (book_in s) ≡ total_of kind period holder source sink (book_in t))
same_canonical = B.same_canonical

-- "doing it again changes nothing"
pub canonical-again : (n : ℕ) (s : List ℕ) → AcceptedFor n s → canonical_file (canonical_file s) ≡ canonical_file s
canonical-again = B.canonical-again

-- "Verdicts survive", for each grid, process and period
pub verdicts_survive : (n : ℕ) (s : List ℕ) → AcceptedFor n s → (g : Grid) (process : Process) (t : Period)
    → SameTest g process (of_period t (book_in (canonical_file s))) (of_period t (book_in s))
verdicts_survive = K.verdicts_survive

-- "exact totals survive": at each price list, so net payment, shortfall and worst shortfall too
pub totals-survive : (n : ℕ) (s : List ℕ) → AcceptedFor n s → (g : Grid) (process : Process) (t : Period)
    → SamePayments g process (of_period t (book_in (canonical_file s))) (of_period t (book_in s))
totals-survive = K.totals-survive
