-- Document 02, paper 11, over what `write_canonical_book` and its C function promise: of the first bytes of the place, as many as it gives. Statements only.
use Rattle.std.specs.Prelude.{◌≡◌, ◌↔◌, List, ℕ, ◌≤◌, length, take, Ok}
use Rattle.lists.specs.Lent.{Lent, after}
use Rattle.tariff.specs.declared.contracts.Kind.{Kind}
use Rattle.tariff.specs.declared.contracts.Period.{Period}
use Rattle.layouts.specs.Writing.{WriteAnswer}
use Rattle.layouts.specs.BookFile.{book_form_in, book_in}
use Rattle.canonical_rules.specs.Canonical.{total_of, CanonicalOf}
use Rattle.canonical_rules.specs.CanonicalBook.{canonical_book_call, WritesCanonicalBook, WritesCanonicalBookForC}
use Rattle.book_calls.specs.Alike.{AnsweredAlike}

-- "for each such five, total quantity agrees"
abbrev pub TotalsAgree : List ℕ → List ℕ → Type 0
TotalsAgree s t =
    (kind : Kind) (period : Period) (holder source sink : ℕ) → total_of kind period holder source sink (book_in s) ≡ total_of kind period holder source sink (book_in t)

-- THE STATEMENTS. The book s of n nodes goes into the place e, where m bytes are given and x is left.
pub record CanonicalCalls : Type 0 where
  -- "sorted by kind, period, holder, source and sink, equal ones added together and cut into rows of 1,000,000 with any rest last": the rows of the bytes written
  pub rows-canonical : (n : ℕ) (s e : List ℕ) (m : ℕ) (x : List ℕ) → WritesCanonicalBook (canonical_book_call n s e) (Ok m) x
      → CanonicalOf (book_in s) (book_in (take m x))
  -- "Two accepted books of the same width have equal bytes in this form exactly when, for each such five, total quantity agrees", whatever their node counts
  pub same_bytes_written : (n : ℕ) (s e : List ℕ) (m : ℕ) (x : List ℕ) → WritesCanonicalBook (canonical_book_call n s e) (Ok m) x
      → (n₂ : ℕ) (t f : List ℕ) (k : ℕ) (y : List ℕ) → WritesCanonicalBook (canonical_book_call n₂ t f) (Ok k) y → book_form_in s ≡ book_form_in t
      → (take m x ≡ take k y) ↔ TotalsAgree s t
  -- "doing it again changes nothing": the bytes written, given to the entry again, with room for as many
  pub canonical-again : (n : ℕ) (s e : List ℕ) (m : ℕ) (x : List ℕ) → WritesCanonicalBook (canonical_book_call n s e) (Ok m) x → (f : List ℕ) → m ≤ length f
      → (b : WriteAnswer) (y : List ℕ) → WritesCanonicalBook (canonical_book_call n (take m x) f) b y → (b ≡ Ok m) × (take m y ≡ take m x)
  -- "Verdicts and exact totals survive": what each entry and C function answers on the bytes written is what it answers on the book
  pub canonical-answered_alike : (n : ℕ) (s e : List ℕ) (m : ℕ) (x : List ℕ) → WritesCanonicalBook (canonical_book_call n s e) (Ok m) x
      → AnsweredAlike n (take m x) s
  -- the same of `crr_write_canonical_book`, where it answers 0, with the length in a lent figure
  pub crr_rows_canonical : (n : ℕ) (s e x : List ℕ) (u : Lent ℕ) → WritesCanonicalBookForC (canonical_book_call n s e) 0 x u
      → CanonicalOf (book_in s) (book_in (take (after u) x))
  pub crr_same_bytes_written : (n : ℕ) (s e x : List ℕ) (u : Lent ℕ) → WritesCanonicalBookForC (canonical_book_call n s e) 0 x u
      → (n₂ : ℕ) (t f y : List ℕ) (v : Lent ℕ) → WritesCanonicalBookForC (canonical_book_call n₂ t f) 0 y v → book_form_in s ≡ book_form_in t
      → (take (after u) x ≡ take (after v) y) ↔ TotalsAgree s t
  pub crr_canonical_again : (n : ℕ) (s e x : List ℕ) (u : Lent ℕ) → WritesCanonicalBookForC (canonical_book_call n s e) 0 x u → (f : List ℕ) → after u ≤ length f
      → (number : ℕ) (y : List ℕ) (v : Lent ℕ) → WritesCanonicalBookForC (canonical_book_call n (take (after u) x) f) number y v
      → (number ≡ 0) × (after v ≡ after u) × (take (after u) y ≡ take (after u) x)
  pub crr_canonical_answered_alike : (n : ℕ) (s e x : List ℕ) (u : Lent ℕ) → WritesCanonicalBookForC (canonical_book_call n s e) 0 x u
      → AnsweredAlike n (take (after u) x) s
