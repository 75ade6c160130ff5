-- What the theorems speak of beside the definitions: contracts whose five is one number, the order that the paper names, and what a book keeps.
use Rattle.std.specs.Prelude.{◌≡◌, ◌⊎◌, ◌↔◌, List, ℕ, ◌≤◌, ◌<◌, length, ℤ, Ok}
use Rattle.tariff.specs.declared.contracts.Contract.{Contract}
use Rattle.tariff.specs.declared.processes.Process.{Process}
use Rattle.tariff.specs.Refusals.{passed}
use Rattle.tariff.specs.Refusals.{first}
use Rattle.tariff.specs.Units.{Grid}
use Rattle.tariff.specs.Settlement.{exact_total}
use Rattle.tariff.specs.Shortfall.{net_payment, shortfall, IsWorst}
use Rattle.layouts.specs.BookFile.{kind_bit_of, period_bit_of, book_form_in, book_in}
use Rattle.book_rules.specs.BookChecks.{own_checks}
use Rattle.canonical_rules.specs.Canonical.{canonical, canonical_file}

-- the ranges of a book's fields, of either width
pub record FiveFits (c : Contract) : Type 0 where
  pub holder-fits : c.holder < 1024
  pub source_fits : c.source < 4096
  pub sink-fits : c.sink < 4096

-- the same kind, period, holder, source and sink
pub record SameFive (a b : Contract) : Type 0 where
  pub kind : a.kind ≡ b.kind
  pub period : a.period ≡ b.period
  pub holder : a.holder ≡ b.holder
  pub source : a.source ≡ b.source
  pub sink : a.sink ≡ b.sink

-- less by the first of two figures, or equal there and less by what follows
abbrev pub Then : ℕ → ℕ → Type 0 → Type 0
Then x y next = (x < y) ⊎ ((x ≡ y) × next)

-- "sorted by kind, period, holder, source and sink"
abbrev pub Sooner : Contract → Contract → Type 0
Sooner a b =
    Then (kind_bit_of a.kind) (kind_bit_of b.kind)
    (Then (period_bit_of a.period) (period_bit_of b.period) (Then a.holder b.holder (Then a.source b.source (a.sink < b.sink))))

-- a book that is handed in with a node count and accepted
abbrev pub AcceptedFor : ℕ → List ℕ → Type 0
AcceptedFor n s = first (own_checks n s) ≡ passed

-- the canonical file is such a book, of the same form and no longer, and reads as the canonical rows
pub record CanonicalBook (n : ℕ) (s : List ℕ) : Type 0 where
  pub accepted : AcceptedFor n (canonical_file s)
  pub same_form : book_form_in (canonical_file s) ≡ book_form_in s
  pub rows : book_in (canonical_file s) ≡ canonical (book_in s)
  pub no_longer : length (canonical_file s) ≤ length s

-- "exact totals survive": at each price list, and what is made of them
pub record SamePayments (g : Grid) (process : Process) (xs ys : List Contract) : Type 0 where
  pub exact-total : (p : List ℕ) → exact_total g.factors p xs ≡ exact_total g.factors p ys
  pub net-payment : (p : List ℕ) → net_payment g.factors xs p ≡ net_payment g.factors ys p
  pub shortfalls : (p : List ℕ) → shortfall g process xs p ≡ shortfall g process ys p
  pub worst : (w : ℤ) → IsWorst g process xs w ↔ IsWorst g process ys w
