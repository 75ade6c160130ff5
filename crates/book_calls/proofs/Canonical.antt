-- Paper 11 of the bytes written: they are the canonical file, so what is proved of it holds of them, for C too.
use mathlib.Core.Path.{◌≡◌, sym, ap, ◌∙◌}
use mathlib.Core.Logic.{◌↔◌}
use mathlib.Core.List.{List, [], ◌∷◌}
use Prim.Native.Nat.{ℕ, ◌≤◌}
use borrow.Author.Tests.{le-ltb}
use lib.ListN.{length, take}
use Rattle.lists.specs.Lent.{Lent, before, after}
use Rattle.lists.proofs.Fronts.{front-is}
use Rattle.tariff.specs.declared.processes.Process.TheVariants.{Monthly}
use Rattle.std.specs.Prelude.{Ok}
use Rattle.tariff.specs.Refusals.{passed}
use Rattle.tariff.specs.Refusals.{number_after}
use Rattle.tariff.specs.Checks.{short_table}
use Rattle.tariff.proofs.Answers.{figure-is}
use Rattle.tariff.proofs.Checks.{passed_append, append_passes, last-passes}
use Rattle.layouts.specs.Writing.{WriteAnswer}
use Rattle.layouts.specs.BookFile.{book_form_in, book_in}
use Rattle.layouts.proofs.Writing.{writes_passed, writes_told, size-told, writes_by, written-by}
use Rattle.book_rules.specs.BookChecks.{own_checks}
use Rattle.canonical_rules.specs.Canonical.{CanonicalOf, canonical_file}
use Rattle.canonical_rules.specs.Theorems.{AcceptedFor}
use Rattle.canonical_rules.proofs.Books.{book-five}
use Rattle.canonical_rules.proofs.Theorems as T
use Rattle.canonical_rules.specs.CanonicalBook.{canonical_book_call, canonical_book_checks, canonical_book_checked, WritesCanonicalBook, WritesCanonicalBookForC}
use Rattle.book_calls.specs.Alike.{AnsweredAlike}
use Rattle.book_calls.specs.Canonical.{TotalsAgree, CanonicalCalls}
use Rattle.book_calls.proofs.Alike.{answered-alike}

-- what a length given says: the book is accepted, and the first bytes are its canonical file
module _ (n : ℕ) (s e : List ℕ) (m : ℕ) (x : List ℕ) (w : WritesCanonicalBook (canonical_book_call n s e) (Ok m) x) where
  told : (canonical_book_checked (canonical_book_call n s e) ≡ passed) × (take m x ≡ canonical_file s)
  told = writes_told _ (canonical_file s) e m x w

  ok : AcceptedFor n s
  unfolding canonical_book_checks
  ok = (passed_append (own_checks n s) (short_table (length e) (length (canonical_file s)) ∷ []) told.0).0

  made : AcceptedFor n (take m x)
  made = rw told.1 (T.canonical-is_a_book n s ok).accepted

  rows : CanonicalOf (book_in s) (book_in (take m x))
  rows = rw (told.1, (T.canonical-is_a_book n s ok).rows) (T.canonical-is (book_in s) (book-five n s ok))

  itself : canonical_file (take m x) ≡ take m x
  itself = ap canonical_file told.1 ∙ T.canonical-again n s ok ∙ sym told.1

  alike : AnsweredAlike n (take m x) s
  alike =
      answered-alike n (take m x) s
      (record {
        accepted = made;
        accepted-too = ok;
        flows-same = λ f u k. rw told.1 ((T.verdicts_survive n s ok (record { factors = f; limits = [] }) Monthly u).flows-same k);
        totals-same = λ f p u. rw told.1 ((T.totals-survive n s ok (record { factors = f; limits = [] }) Monthly u).exact-total p);
      })

  -- given to the entry again
  module _ (f : List ℕ) (room : m ≤ length f) where
    size : length (canonical_file (take m x)) ≡ m
    size = ap length (itself ∙ told.1) ∙ sym (size-told _ (canonical_file s) e m x w)

    passes : canonical_book_checked (canonical_book_call n (take m x) f) ≡ passed
    unfolding canonical_book_checks
    passes =
        append_passes (own_checks n (take m x)) (short_table (length f) (length (canonical_file (take m x))) ∷ []) made
        ∙ last-passes (short_table (length f) (length (canonical_file (take m x)))) (le-ltb (length f) (length (canonical_file (take m x))) (rw size room))

    again : (b : WriteAnswer) (y : List ℕ) → WritesCanonicalBook (canonical_book_call n (take m x) f) b y → (b ≡ Ok m) × (take m y ≡ take m x)
    again b y v =
        let r = writes_passed (canonical_book_checked (canonical_book_call n (take m x) f)) (canonical_file (take m x)) f b y passes v in
        (r.length-is ∙ ap Ok size, ap (take m) r.bytes-are ∙ front-is (canonical_file (take m x)) f m size ∙ itself)

    again-for_c : (number : ℕ) (y : List ℕ) (v : Lent ℕ) → WritesCanonicalBookForC (canonical_book_call n (take m x) f) number y v
        → (number ≡ 0) × (after v ≡ m) × (take m y ≡ take m x)
    again-for_c number y v h =
        let checked = canonical_book_checked (canonical_book_call n (take m x) f) in (
          h.refusal-number ∙ ap number_after passes,
          figure-is checked passes _ _ _ h.length-given ∙ size,
          (again _ y (writes_by checked (canonical_file (take m x)) f (before v) number y (after v) h)).1,
        )

-- of the bytes written
same_bytes : (n : ℕ) (s e : List ℕ) (m : ℕ) (x : List ℕ) → WritesCanonicalBook (canonical_book_call n s e) (Ok m) x
    → (n₂ : ℕ) (t f : List ℕ) (k : ℕ) (y : List ℕ) → WritesCanonicalBook (canonical_book_call n₂ t f) (Ok k) y → book_form_in s ≡ book_form_in t
    → (take m x ≡ take k y) ↔ TotalsAgree s t
same_bytes n s e m x w n₂ t f k y v form =
    let i = T.same_canonical n n₂ s t (ok n s e m x w) (ok n₂ t f k y v) form in
    (λ q. i.0 (sym (told n s e m x w).1 ∙ q ∙ (told n₂ t f k y v).1), λ q. (told n s e m x w).1 ∙ i.1 q ∙ sym (told n₂ t f k y v).1)

-- 0 answered: a length was given
given-c : (n : ℕ) (s e x : List ℕ) (u : Lent ℕ) → WritesCanonicalBookForC (canonical_book_call n s e) 0 x u → WritesCanonicalBook (canonical_book_call n s e) (Ok (after u)) x
given-c n s e x u w = written-by (canonical_book_checked (canonical_book_call n s e)) (canonical_file s) e (before u) x (after u) w

pub canonical-calls : CanonicalCalls
canonical-calls =
    record {
      rows-canonical = rows;
      same_bytes_written = same_bytes;
      canonical-again = again;
      canonical-answered_alike = alike;
      crr_rows_canonical = λ n s e x u w. rows n s e (after u) x (given-c n s e x u w);
      crr_same_bytes_written = λ n s e x u w n₂ t f y v z. same_bytes n s e (after u) x (given-c n s e x u w) n₂ t f (after v) y (given-c n₂ t f y v z);
      crr_canonical_again = λ n s e x u w. again-for_c n s e (after u) x (given-c n s e x u w);
      crr_canonical_answered_alike = λ n s e x u w. alike n s e (after u) x (given-c n s e x u w);
    }
