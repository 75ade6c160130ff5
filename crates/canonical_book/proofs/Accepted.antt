-- The canonical rows as numbers in cells, and back; and what the entry asks of an accepted book.
use mathlib.Core.Path.{◌≡◌, refl, sym, ap, ap₂, ◌∙◌}
use mathlib.Core.List.{List, [], ◌∷◌, map}
use Prim.Native.Nat.{ℕ, zero, suc, ◌≤◌, ◌<◌}
use native.Mathlib.Omega.{arith}
use borrow.Author.Tests.{lt-ltb, le-ltb}
use lib.ListN.{length, get_or, length-map}
use Rattle.std.proofs.lemmas.List.{take_all}
use Rattle.lists.specs.Lists.{Each, list_to}
use Rattle.lists.proofs.Lists.{map-list_to, take-is_list_to}
use Rattle.tariff.specs.declared.contracts.Contract.{Contract}
use Rattle.tariff.specs.declared.refusals.Refusal.{Refusal}
use Rattle.tariff.specs.declared.refusals.Refusal.TheVariants.{ShortTable}
use Rattle.std.specs.Prelude.{Err}
use Rattle.tariff.specs.Refusals.{passed}
use Rattle.tariff.specs.Refusals.{first}
use Rattle.tariff.proofs.Checks.{first-refuses, last-passes, append_refuses, append_passes}
use Rattle.layouts.specs.declared.forms.Form.{Form}
use Rattle.layouts.specs.Forms.{end_width}
use Rattle.layouts.specs.BookFile.{book_bytes_of, contract_count_in, book_form_in, book_in}
use Rattle.layouts.specs.Inner.{contract_for}
use Rattle.layouts.specs.BookTable.{ContractFits}
use Rattle.book_rules.specs.BookChecks.{own_checks}
use Rattle.book_rules.proofs.Accepted.{own_accepted, own_header}
use Rattle.canonical_rules.specs.Canonical.{canonical, canonical_file}
use Rattle.canonical_rules.specs.CanonicalBook.{CanonicalBookCall, canonical_book_checks, canonical_book_checked}
use Rattle.canonical_rules.specs.Inner.{row_number}
use Rattle.canonical_rules.proofs.Books.{book-filled_at, book-five_at, book-canonical, rows_fit}
use Rattle.canonical_numbers.specs.Inner.{Countable}
use Rattle.canonical_book.specs.Inner.{RowOf}
use Rattle.canonical_book.proofs.Unpacking.{contract-back}

-- ---- rows as numbers, and back

rows_at : (form : Form) (rows : List Contract) → Each (ContractFits (end_width form)) rows → (i : ℕ) → i < length rows → RowOf form (get_or (map row_number rows) i 0)
rows_at form [] f i h = absurd (omega arith)
rows_at form (r ∷ rows) f zero h = record { of = r; fits = f.0; is = refl }
rows_at form (r ∷ rows) f (suc i) h = rows_at form rows f.1 i (omega arith)

rows_back : (form : Form) (rows : List Contract) → Each (ContractFits (end_width form)) rows → map (contract_for 12) (map row_number rows) ≡ rows
rows_back form [] f = refl
rows_back form (r ∷ rows) f = ap₂ ◌∷◌ (contract-back form r f.0 (row_number r) refl) (rows_back form rows f.1)

module _ (form : Form) (rows : List Contract) (fits : Each (ContractFits (end_width form)) rows) (cells : List ℕ) (e : cells ≡ map row_number rows) where
  pub rows-count : length cells ≡ length rows
  rows-count = ap length e ∙ length-map rows row_number

  pub row_at : (i : ℕ) → i < length cells → RowOf form (get_or cells i 0)
  row_at i h = rw e (rows_at form rows fits i (omega (arith, rows-count)))

  pub rows_are : list_to (length cells) (λ i. contract_for 12 (get_or cells i 0)) ≡ rows
  rows_are =
      sym (map-list_to (length cells) (λ i. get_or cells i 0) (contract_for 12))
      ∙ ap (map (contract_for 12)) (sym (take-is_list_to (length cells) cells 0 (omega arith)) ∙ take_all (length cells) cells (omega arith) ∙ e)
      ∙ rows_back form rows fits

-- ---- an accepted book

module _ (q : CanonicalBookCall) where
  abbrev form : Form
  form = book_form_in q.book

  abbrev canonical_rows : List Contract
  canonical_rows = canonical (book_in q.book)

  pub own_refuses : (r : Refusal) → first (own_checks q.nodes q.book) ≡ Err r → canonical_book_checked q ≡ Err r
  unfolding canonical_book_checks
  own_refuses r e = append_refuses (own_checks q.nodes q.book) _ r e

  module _ (ok : first (own_checks q.nodes q.book) ≡ passed) where
    pub header-there : 2 ≤ length q.book
    header-there = own_header q.nodes q.book ok

    pub countable : (f : Form) (count : ℕ) → f ≡ form → count ≡ contract_count_in q.book → Countable f q.book count
    countable f count ef ec =
        let a = own_accepted q.nodes q.book ok in
        rw (ef, ec)
        (record {
          few = a.few;
          room = omega (arith, a.size);
          filled = book-filled_at q.nodes q.book ok;
          fits = book-five_at q.nodes q.book ok;
        })

    pub rows-fit_form : Each (ContractFits (end_width form)) canonical_rows
    rows-fit_form = rows_fit q.nodes q.book ok

    pub file-bytes : length (canonical_file q.book) ≡ book_bytes_of form (length canonical_rows)
    unfolding canonical_file
    file-bytes = (book-canonical q.nodes q.book ok).size

    -- with so many bytes needed
    module _ (bytes : ℕ) (e : bytes ≡ length (canonical_file q.book)) where
      pub no_room : length q.place < bytes → canonical_book_checked q ≡ Err ShortTable
      unfolding canonical_book_checks
      no_room h = append_passes (own_checks q.nodes q.book) _ ok ∙ first-refuses _ _ (lt-ltb (length q.place) (length (canonical_file q.book)) (omega arith))

      pub room : bytes ≤ length q.place → canonical_book_checked q ≡ passed
      unfolding canonical_book_checks
      room h = append_passes (own_checks q.nodes q.book) _ ok ∙ last-passes _ (le-ltb (length q.place) (length (canonical_file q.book)) (omega arith))
