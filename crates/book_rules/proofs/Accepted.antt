-- What is known of a book that its own checks accept.
use mathlib.Core.Path.{◌≡◌, ◌∙◌}
use mathlib.Core.Bool.{false}
use mathlib.Core.List.{List}
use Prim.Native.Nat.{ℕ, ◌+◌, ◌≤◌, ◌<◌}
use native.Mathlib.Omega.{arith}
use borrow.Author.Tests.{ltb-false, leb-false, lt-leb}
use lib.Dec.{leb, ltb, eqb}
use lib.ListN.{length}
use Rattle.lists.specs.Lists.{Each}
use Rattle.tariff.specs.declared.contracts.Contract.{Contract}
use Rattle.std.specs.Prelude.{Ok}
use Rattle.tariff.specs.Refusals.{passed}
use Rattle.tariff.specs.ContractRules.{InRange}
use Rattle.tariff.specs.Refusals.{first}
use Rattle.tariff.specs.Checks.{node_count}
use Rattle.tariff.specs.Units.{max_quantity, max_contracts}
use Rattle.lists.proofs.Search.{neither}
use Rattle.tariff.proofs.Checks.{first_passes, passed_cons, same_of}
use Rattle.layouts.specs.declared.forms.Form.{Form}
use Rattle.layouts.specs.Forms.{record_bytes, spare_pattern_of}
use Rattle.layouts.specs.BookFile.{book_bytes_of, contract_count_in, book_spare_in, book_form_in, contract_at, book_in}
use Rattle.layouts.proofs.BookFile.{record_room, book-bytes_least}
use Rattle.lists.proofs.Lists.{each-list_to}
use Rattle.book_rules.specs.BookChecks.{contract_checks, book_checks, own_checks}
use Rattle.book_rules.proofs.Checking.{checks_each}

-- a contract that no check of its own refuses
pub contract-in_range : (n : ℕ) (c : Contract) → first (contract_checks n c) ≡ passed → InRange n c
unfolding contract_checks
contract-in_range n c e =
    let p = passed_cons _ _ e in
    let ends = neither (leb n c.source) (leb n c.sink) p.0 in
    let q = passed_cons _ _ p.1 in
    record {
      source-below = leb-false n c.source ends.0;
      sink-below = leb-false n c.sink ends.1;
      quantity-sized = ltb-false max_quantity c.quantity.0 (neither (eqb c.quantity.0 0) (ltb max_quantity c.quantity.0) q.0).1;
    }

-- of the node count a contract's checks ask no more than that its ends are below it
pub checks_below : (m n : ℕ) (c : Contract) → c.source < n → c.sink < n → first (contract_checks m c) ≡ passed → first (contract_checks n c) ≡ passed
unfolding contract_checks
checks_below m n c hs ht e = first_passes _ _ (rw (lt-leb n c.source hs) (lt-leb n c.sink ht)) ∙ (passed_cons _ _ e).1

pub record Accepted (n : ℕ) (s : List ℕ) : Type 0 where
  pub few : contract_count_in s ≤ max_contracts
  pub spare : book_spare_in s ≡ spare_pattern_of (book_form_in s)
  pub size : length s ≡ book_bytes_of (book_form_in s) (contract_count_in s)
  pub each : (i : ℕ) → i < contract_count_in s → InRange n (contract_at s i)

-- each contract of it passes its own
pub contracts-pass : (n : ℕ) (s : List ℕ) → first (book_checks n s) ≡ passed → (i : ℕ) → i < contract_count_in s → first (contract_checks n (contract_at s i)) ≡ passed
unfolding book_checks
contracts-pass n s e =
    let own = (passed_cons _ _ (passed_cons _ _ (passed_cons _ _ (passed_cons _ _ e).1).1).1).1 in
    checks_each (λ j. contract_checks n (contract_at s j)) (contract_count_in s) own

pub book-accepted : (n : ℕ) (s : List ℕ) → first (book_checks n s) ≡ passed → Accepted n s
unfolding book_checks
book-accepted n s e =
    let a = passed_cons _ _ e in
    let b = passed_cons _ _ a.1 in
    let c = passed_cons _ _ b.1 in
    let d = passed_cons _ _ c.1 in
    record {
      few = ltb-false max_contracts (contract_count_in s) b.0;
      spare = same_of (book_spare_in s) (spare_pattern_of (book_form_in s)) c.0;
      size = same_of (length s) (book_bytes_of (book_form_in s) (contract_count_in s)) d.0;
      each = λ i h. contract-in_range n (contract_at s i) (contracts-pass n s e i h);
    }

-- in the form found contract i has its bytes
pub accepted-room : (n : ℕ) (s : List ℕ) → Accepted n s → (f : Form) → f ≡ book_form_in s → (i : ℕ) → i < contract_count_in s → (i < 1024) × (book_bytes_of f i + record_bytes f ≤ length s)
accepted-room n s a f form i h = (omega (arith, a.few), rw form (record_room (book_form_in s) i (contract_count_in s) (length s) h (omega (arith, a.size))))

pub accepted-header : (n : ℕ) (s : List ℕ) → Accepted n s → 2 ≤ length s
accepted-header n s a = book-bytes_least (book_form_in s) (contract_count_in s) (length s) (omega (arith, a.size))

pub all-in_range : (n : ℕ) (s : List ℕ) → Accepted n s → Each (InRange n) (book_in s)
all-in_range n s a = each-list_to (InRange n) (contract_count_in s) (contract_at s) a.each

-- of a book that is handed in with a node count: the count is one that a grid has, and the book's checks pass
pub own_parts : (n : ℕ) (s : List ℕ) → first (own_checks n s) ≡ passed → ((node_count n).fails ≡ false) × (first (book_checks n s) ≡ passed)
unfolding own_checks
own_parts n s e = passed_cons _ _ e

pub own_accepted : (n : ℕ) (s : List ℕ) → first (own_checks n s) ≡ passed → Accepted n s
own_accepted n s e = book-accepted n s (own_parts n s e).1

pub own_header : (n : ℕ) (s : List ℕ) → first (own_checks n s) ≡ passed → 2 ≤ length s
own_header n s e = accepted-header n s (own_accepted n s e)

pub own_passes : (n : ℕ) (s : List ℕ) → (node_count n).fails ≡ false → first (book_checks n s) ≡ passed → first (own_checks n s) ≡ passed
unfolding own_checks
own_passes n s few e = first_passes _ _ few ∙ e
