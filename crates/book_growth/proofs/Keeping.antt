-- A book kept under a new header: the bytes of its contracts are the book's own; and what 10 and 9 leave.
use mathlib.Core.Path.{◌≡◌, refl, sym, ap, subst, ◌∙◌}
use mathlib.Core.List.{List, ◌++◌, flat_map, append_assoc}
use Prim.Native.Nat.{ℕ, ◌≤◌}
use borrow.Author.Tests.{ltb-false}
use lib.ListN.{length, drop}
use lib.Seq.{drop_at}
use Rattle.lists.specs.Lent.{overwrite}
use Rattle.bits.proofs.Numbers.{Below}
use Rattle.tariff.specs.Refusals.{passed}
use Rattle.tariff.specs.Refusals.{first}
use Rattle.tariff.specs.Units.{max_contracts}
use Rattle.tariff.proofs.Checks.{passed_cons}
use Rattle.layouts.specs.declared.forms.Form.{Form}
use Rattle.layouts.specs.Forms.{spare_pattern_of}
use Rattle.layouts.specs.BookFile.{book_bytes_of, contract_count_in, book_spare_in, book_form_in, book_in}
use Rattle.layouts.proofs.BookFile.{book-read, book-fits, length-book_in}
use Rattle.book_rules.specs.Inner.{header_bytes, contract_bytes, book_front}
use Rattle.book_rules.proofs.Accepted.{Accepted}
use Rattle.book_rules.proofs.Bytes.{length-header, book-bytes, length_front}
use Rattle.book_growth.specs.Inner.{growth_checks, Whole}

module _ (s : List ℕ) (bytes : Below 8 s) (size : length s ≡ book_bytes_of (book_form_in s) (contract_count_in s))
    (spare : book_spare_in s ≡ spare_pattern_of (book_form_in s)) where
  abbrev f : Form
  f = book_form_in s

  abbrev rows : List ℕ
  rows = flat_map (contract_bytes f) (book_in s)

  -- its header, and its contracts' bytes
  parts : s ≡ header_bytes f (contract_count_in s) ++ rows
  parts = sym (book-read s bytes size spare) ∙ sym (book-bytes f (book_in s) (book-fits s)) ∙ ap (λ (m : ℕ). header_bytes f m ++ rows) (length-book_in s)

  copied : (m : ℕ) (place : List ℕ) → overwrite (header_bytes f m) (overwrite s place) ≡ overwrite (book_front f m (book_in s)) place
  copied m place =
      let rest = drop (length s) place in
      let h = header_bytes f m in
      let long : length s ≡ length (book_front f m (book_in s)) = size ∙ ap (book_bytes_of f) (sym (length-book_in s)) ∙ sym (length_front f m (book_in s)) in
      ap (λ (l : List ℕ). h ++ l) (
      ap (λ (k : ℕ). drop k (s ++ rest)) (length-header f m)
      ∙ ap (λ (l : List ℕ). drop 2 (l ++ rest)) parts
      ∙ ap (drop 2) (append_assoc (header_bytes f (contract_count_in s)) rows rest)
      ∙ drop_at (header_bytes f (contract_count_in s)) (rows ++ rest) 2 (length-header f (contract_count_in s))
      )
      ∙ sym (append_assoc h rows rest)
      ∙ ap (λ (k : ℕ). (h ++ rows) ++ drop k place) long

pub front_kept : (f : Form) (m : ℕ) (s place : List ℕ) → Below 8 s → Whole f s → overwrite (header_bytes f m) (overwrite s place)
    ≡ overwrite (book_front f m (book_in s)) place
front_kept f m s place bytes w =
    subst (λ (g : Form). overwrite (header_bytes g m) (overwrite s place) ≡ overwrite (book_front g m (book_in s)) place) w.form-is
    (copied s bytes (rw w.form-is w.size) (rw w.form-is w.spare) m place)

-- an accepted book is one
pub accepted-whole : (n : ℕ) (s : List ℕ) → Accepted n s → Whole (book_form_in s) s
accepted-whole n s a = record { form-is = refl; spare = a.spare; size = a.size }

-- what 10 and 9 leave
pub room-parts : (f : Form) (grown bytes : ℕ) → first (growth_checks f grown bytes) ≡ passed → (grown ≤ max_contracts) × (book_bytes_of f grown ≤ bytes)
room-parts f grown bytes e =
    let a = passed_cons _ _ e in
    let b = passed_cons _ _ a.1 in
    (ltb-false max_contracts grown a.0, ltb-false bytes (book_bytes_of f grown) b.0)
