-- The book's file there and back.
use mathlib.Core.Path.{◌≡◌, ap, ap₂, ◌∙◌}
use mathlib.Core.List.{List, [], ◌∷◌, flat_map}
use Prim.Native.Nat.{ℕ, ◌*◌, ◌≤◌}
use lib.ListN.{length, take}
use lib.IntN.{pos}
use Rattle.bits.proofs.Bytes.{bytes_below}
use Rattle.lists.specs.Lent.{overwrite}
use Rattle.std.specs.Prelude.{Ok, Err}
use Rattle.tariff.specs.Refusals.{passed}
use Rattle.tariff.proofs.Answers.{never_given, given-told}
use Rattle.layouts.specs.Writing.{WriteAnswer}
use Rattle.layouts.specs.declared.forms.Form.{Form}
use Rattle.layouts.specs.Forms.{form_number}
use Rattle.layouts.specs.BookFile.{contract_count_in, book_form_in, book_in, book_file}
use Rattle.layouts.specs.BookTable.{contract_cells, cells_of, rows_in}
use Rattle.layouts.specs.Writing.{IsWritten}
use Rattle.layouts.proofs.Writing.{writes_passed, writes_told}
use Rattle.book_rules.specs.ReadBook.{BookAnswer, book_read}
use Rattle.book_rules.specs.ReadBook.{read_book_call, read_book_checked, book_values, book_outcome, ReadsBook}
use Rattle.book_rules.specs.WriteBook.{write_book_call, write_book_checked, book_written, WritesBook}
use Rattle.book_rules.proofs.RoundTrip.{ReadBack, read_then_written, written-then_read}
use Rattle.book_rules.proofs.Taken.{rows_left, rows-accepted}
use Rattle.bits.specs.Bits.{Bytes}
use Rattle.round_trips.specs.Trips.{BookIs}
use Rattle.round_trips.proofs.Grids.{same_form}

-- ---- read, then written

module _ (n : ℕ) (s entry : List ℕ) (bytes : Bytes s) (m : ℕ) (f : Form) (table : List ℕ) (h : ReadsBook (read_book_call n s entry) (book_read m f) table)
    (place : List ℕ)
    (room : length s ≤ length place) where
  told : (read_book_checked (read_book_call n s entry) ≡ passed) × (pos m ∷ pos (form_number f) ∷ [] ≡ book_values (read_book_call n s entry))
  told = given-told (read_book_checked (read_book_call n s entry)) (book_values (read_book_call n s entry)) (pos m ∷ pos (form_number f) ∷ []) h.values-given

  count : m ≡ contract_count_in s
  count = let q : pos m ∷ pos (form_number f) ∷ [] ≡ pos (contract_count_in s) ∷ pos (form_number (book_form_in s)) ∷ [] = told.1 in cc

  form : f ≡ book_form_in s
  form =
      let q : pos m ∷ pos (form_number f) ∷ [] ≡ pos (contract_count_in s) ∷ pos (form_number (book_form_in s)) ∷ [] = told.1 in
      let number : form_number f ≡ form_number (book_form_in s) = cc in
      same_form f (book_form_in s) number

  left : table ≡ overwrite (flat_map cells_of (book_in s)) entry
  left = rw told.0 at h.contracts-read

  rows : rows_in m table ≡ book_in s
  rows = rw (count, left) (rows_left n s entry told.0)

  accepted : write_book_checked (write_book_call f n m table place) ≡ passed
  accepted = rw (form, count, left) (rows-accepted n s entry told.0 place room)

  same_file : book_written (write_book_call f n m table place) ≡ s
  same_file = ap₂ book_file form rows ∙ read_then_written (read_book_call n s entry) (bytes_below s bytes) told.0

  pub book-rewritten : (a : WriteAnswer) (exit : List ℕ) → WritesBook (write_book_call f n m table place) a exit → IsWritten s place a exit
  book-rewritten a exit w =
      let r = writes_passed _ (book_written (write_book_call f n m table place)) place a exit accepted w in
      record {
        length-is = r.length-is ∙ ap (λ (l : List ℕ). Ok (length l)) same_file;
        bytes-are = r.bytes-are ∙ ap
            (λ (l : List ℕ). overwrite l place) same_file;
      }

-- ---- written, then read

module _ (f : Form) (n m : ℕ) (rows place : List ℕ) (size : ℕ) (exit : List ℕ) (w : WritesBook (write_book_call f n m rows place) (Ok size) exit) (entry : List ℕ)
    (room : contract_cells * m ≤ length entry) where
  written : (write_book_checked (write_book_call f n m rows place) ≡ passed) × (take size exit ≡ book_written (write_book_call f n m rows place))
  written = writes_told _ _ place size exit w

  back : ReadBack (write_book_call f n m rows place)
  back = written-then_read (write_book_call f n m rows place) written.0

  read_back : read_book_checked (read_book_call n (take size exit) entry) ≡ passed
  read_back = rw written.1 (back.passes entry room)

  count-told : (a : BookAnswer) (x : ℕ) (g : Form) → book_outcome a ≡ record { number = 0; values = pos x ∷ pos (form_number g) ∷ [] } → a ≡ book_read x g
  count-told (Ok found) x g e =
      let q : pos found.contracts ∷ pos (form_number found.form) ∷ [] ≡ pos x ∷ pos (form_number g) ∷ [] = (given-told passed (pos x ∷ pos (form_number g) ∷ [])
      (pos found.contracts ∷ pos (form_number found.form) ∷ []) e).1 in
      let contracts : found.contracts ≡ x = cc in
      let number : form_number found.form ≡ form_number g = cc in
      let form = same_form found.form g number in
      λ i. book_read (contracts i) (form i)
  count-told (Err r) x g e = absurd (never_given r (pos x ∷ pos (form_number g) ∷ []) e)

  pub book-reread : (a : BookAnswer) (table : List ℕ) → ReadsBook (read_book_call n (take size exit) entry) a table → BookIs f m rows entry a table
  book-reread a table h =
      let count : contract_count_in (take size exit) ≡ m = rw written.1 back.count in
      let form : book_form_in (take size exit) ≡ f = rw written.1 back.form in
      let cells : flat_map cells_of (book_in (take size exit)) ≡ take (contract_cells * m) rows = rw written.1 back.cells_are in
      record {
        count-is = count-told a m f (rw (read_back, count, form) at h.values-given);
        rows_are = rw (read_back, cells) at h.contracts-read;
      }
