-- A book's file there and back, over what the entries ensure: bytes that no check of the reader refuses are the file of the contracts that are read from
-- them, and a file that is written is not refused and gives the table's rows.
use mathlib.Core.Path.{◌≡◌, ap, ◌∙◌}
use mathlib.Core.List.{List, flat_map}
use Prim.Native.Nat.{ℕ, ◌*◌, ◌≤◌}
use native.Mathlib.Omega.{arith}
use borrow.Author.Tests.{le-ltb}
use lib.ListN.{length, take}
use Rattle.bits.proofs.Numbers.{Below}
use Rattle.std.specs.Prelude.{Ok}
use Rattle.tariff.specs.Refusals.{passed}
use Rattle.tariff.proofs.Checks.{first_passes, last-passes, passed_cons, append_passes}
use Rattle.layouts.specs.BookFile.{book_file, contract_count_in, book_form_in, book_in}
use Rattle.layouts.specs.BookTable.{contract_cells, cells_of, rows_in}
use Rattle.layouts.proofs.BookFile.{book-read}
use Rattle.layouts.proofs.BookTable.{cells-rows}
use Rattle.book_rules.specs.BookChecks.{book_checks}
use Rattle.book_rules.specs.ReadBook.{ReadBookCall, read_book_call, read_book_checks, read_book_checked}
use Rattle.book_rules.specs.WriteBook.{WriteBookCall, write_book_checks, write_book_checked, book_written}
use Rattle.book_rules.proofs.Passing.{Writable, readable, writable, rows_made, count-written}

-- ---- read, then written

pub read_then_written : (q : ReadBookCall) → Below 8 q.file → read_book_checked q ≡ passed → book_file (book_form_in q.file) (book_in q.file) ≡ q.file
read_then_written q b e = let ok = (readable q e).own in book-read q.file b ok.size ok.spare

-- ---- written, then read

-- what the reader finds in the file written: it is not refused where the table is long enough
pub record ReadBack (q : WriteBookCall) : Type 0 where
  pub passes : (table : List ℕ) → contract_cells * q.contracts ≤ length table → read_book_checked (read_book_call q.nodes (book_written q) table) ≡ passed
  pub count : contract_count_in (book_written q) ≡ q.contracts
  pub form : book_form_in (book_written q) ≡ q.form
  pub rows_are : book_in (book_written q) ≡ rows_in q.contracts q.table
  pub cells_are : flat_map cells_of (book_in (book_written q)) ≡ take (contract_cells * q.contracts) q.table

module _ (q : WriteBookCall) (e : write_book_checked q ≡ passed) where
  ok : Writable q
  ok = writable q e

  not_refused : (table : List ℕ) → contract_cells * q.contracts ≤ length table → read_book_checked (read_book_call q.nodes (book_written q) table) ≡ passed
  unfolding read_book_checks write_book_checks
  not_refused table h =
      first_passes _ _ (passed_cons _ _ e).0 ∙ append_passes (book_checks q.nodes (book_written q)) _ (rows_made q ok).accepted
      ∙ last-passes _ (le-ltb (length table) (contract_cells * contract_count_in (book_written q)) (omega (arith, count-written q ok)))

  pub written-then_read : ReadBack q
  written-then_read =
      record {
        passes = not_refused;
        count = count-written q ok;
        form = (rows_made q ok).form;
        rows_are = (rows_made q ok).contracts;
        cells_are =
            ap (flat_map cells_of) (rows_made q ok).contracts
            ∙ cells-rows q.contracts q.table ok.long (λ i h. ((ok.rows i h).row.kind-is_bit, (ok.rows i h).row.period-is_bit));
      }
