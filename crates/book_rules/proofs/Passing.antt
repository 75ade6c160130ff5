-- How reading's and writing's checks come to their last ones, and what is known of a file that reading's accept and of a table that writing's accept.
use mathlib.Core.Path.{◌≡◌, refl, ap, ◌∙◌}
use mathlib.Core.Bool.{false}
use mathlib.Core.List.{List, [], ◌∷◌, ◌++◌}
use Prim.Native.Nat.{ℕ, ◌+◌, ◌*◌, ◌≤◌, ◌<◌}
use native.Mathlib.Omega.{arith}
use borrow.Author.Tests.{ltb-false, le-ltb}
use lib.Dec.{ltb}
use lib.ListN.{length, get_or}
use Rattle.lists.proofs.Lists.{length-list_to, each-list_to}
use Rattle.lists.proofs.Search.{neither}
use Rattle.std.specs.Prelude.{Ok}
use Rattle.tariff.specs.Refusals.{passed}
use Rattle.tariff.specs.Refusals.{first}
use Rattle.tariff.specs.Checks.{short_table, node_count}
use Rattle.tariff.specs.Units.{max_nodes, max_contracts, max_holder}
use Rattle.tariff.proofs.Checks.{passed_cons, passed_append, nodes-few_of, first_passes}
use Rattle.layouts.specs.declared.forms.Form.{Form}
use Rattle.layouts.specs.Forms.{end_width, ends_below_of}
use Rattle.layouts.specs.BookFile.{book_bytes_of, contract_count_in}
use Rattle.layouts.specs.BookTable.{contract_cells, row_from, row_at, rows_in, ContractFits}
use Rattle.layouts.proofs.BookFile.{ends-fewer}
use Rattle.book_rules.specs.BookChecks.{checks_to, contract_checks, book_checks, own_checks}
use Rattle.book_rules.proofs.Checking.{checks_each}
use Rattle.book_rules.proofs.Accepted.{Accepted, contract-in_range, checks_below, book-accepted}
use Rattle.book_rules.proofs.Making.{Made, in_range_fits, book-made}
use Rattle.book_rules.specs.Inner.{RowFits}
use Rattle.book_rules.specs.ReadBook.{ReadBookCall, read_book_checks, read_book_checked}
use Rattle.book_rules.specs.WriteBook.{WriteBookCall, row_checks, write_book_checks, write_book_checked, book_written}

-- ---- reading

-- the checks of a book that is handed in with a node count, then 9
pub own_then_room : (q : ReadBookCall)
    → read_book_checked q ≡ first (own_checks q.nodes q.file ++ short_table (length q.table) (contract_cells * contract_count_in q.file) ∷ [])
unfolding read_book_checks own_checks
own_then_room q = refl

pub record Readable (q : ReadBookCall) : Type 0 where
  pub own : Accepted q.nodes q.file
  pub room : contract_cells * contract_count_in q.file ≤ length q.table

pub readable : (q : ReadBookCall) → read_book_checked q ≡ passed → Readable q
unfolding read_book_checks
readable q e =
    let cells = contract_cells * contract_count_in q.file in
    let p = passed_append (book_checks q.nodes q.file) (short_table (length q.table) cells ∷ []) (passed_cons _ _ e).1 in
    record { own = book-accepted q.nodes q.file p.0; room = ltb-false (length q.table) cells (passed_cons _ _ p.1).0 }

-- ---- writing

-- past 2, 10 and 9: row by row, then 9
pub then_rows : (q : WriteBookCall) → (node_count q.nodes).fails ≡ false → q.contracts ≤ max_contracts → contract_cells * q.contracts ≤ length q.table
    → write_book_checked q ≡ first (checks_to q.contracts (row_checks (ends_below_of q.form q.nodes) q.table) ++ short_table (length q.place) (book_bytes_of q.form q.contracts) ∷ [])
unfolding write_book_checks
then_rows q right few long = first_passes _ _ right ∙ first_passes _ _ (le-ltb _ _ few) ∙ first_passes _ _ (le-ltb _ _ long)

-- a row that its checks accept in the form f
pub record GoodRow (f : Form) (n : ℕ) (table : List ℕ) (i : ℕ) : Type 0 where
  pub row : RowFits f table (contract_cells * i)
  pub passes : first (contract_checks n (row_at table i)) ≡ passed

row-good : (f : Form) (n : ℕ) → n ≤ max_nodes → (table : List ℕ) (i : ℕ) → first (row_checks (ends_below_of f n) table i) ≡ passed → GoodRow f n table i
unfolding row_checks row_from
row-good f n few table i e =
    let at = contract_cells * i in
    let p = passed_cons _ _ e in
    let bits = neither (ltb 1 (get_or table at 0)) (ltb 1 (get_or table (at + 1) 0)) p.0 in
    let q = passed_cons _ _ p.1 in
    let c = row_at table i in
    let r = contract-in_range (ends_below_of f n) c q.1 in
    record {
      row = record {
        kind-is_bit = ltb-false 1 (get_or table at 0) bits.0;
        period-is_bit = ltb-false 1 (get_or table (at + 1) 0) bits.1;
        fits = in_range_fits f n c few r (ltb-false max_holder (get_or table (at + 2) 0) q.0);
      };
      passes = checks_below (ends_below_of f n) n c (omega (arith, ends-fewer f n, r.source-below)) (omega (arith, ends-fewer f n, r.sink-below)) q.1;
    }

pub record Writable (q : WriteBookCall) : Type 0 where
  pub few : q.contracts ≤ max_contracts
  pub long : contract_cells * q.contracts ≤ length q.table
  pub rows : (i : ℕ) → i < q.contracts → GoodRow q.form q.nodes q.table i
  pub room : book_bytes_of q.form q.contracts ≤ length q.place

pub writable : (q : WriteBookCall) → write_book_checked q ≡ passed → Writable q
unfolding write_book_checks
writable q e =
    let m = q.contracts in
    let rows = row_checks (ends_below_of q.form q.nodes) q.table in
    let size = book_bytes_of q.form m in
    let a = passed_cons _ _ e in
    let b = passed_cons _ _ a.1 in
    let c = passed_cons _ _ b.1 in
    let d = passed_append (checks_to m rows) (short_table (length q.place) size ∷ []) c.1 in
    record {
      few = ltb-false max_contracts m b.0;
      long = ltb-false (length q.table) (contract_cells * m) c.0;
      rows = λ i h. row-good q.form q.nodes (nodes-few_of q.nodes a.0) q.table i (checks_each rows m d.0 i h);
      room = ltb-false (length q.place) size (passed_cons _ _ d.1).0;
    }

-- the file of such rows
module _ (q : WriteBookCall) (ok : Writable q) where
  rows-many : length (rows_in q.contracts q.table) ≡ q.contracts
  rows-many = length-list_to q.contracts (row_at q.table)

  pub rows_made : Made q.form q.nodes (rows_in q.contracts q.table)
  rows_made =
      book-made q.form q.nodes (rows_in q.contracts q.table) (omega (arith, ok.few, rows-many))
      (each-list_to (ContractFits (end_width q.form)) q.contracts (row_at q.table) (λ i h. (ok.rows i h).row.fits))
      (each-list_to (λ c. first (contract_checks q.nodes c) ≡ passed) q.contracts (row_at q.table) (λ i h. (ok.rows i h).passes))

  pub count-written : contract_count_in (book_written q) ≡ q.contracts
  count-written = rows_made.count ∙ rows-many

  pub length-written : length (book_written q) ≡ book_bytes_of q.form q.contracts
  length-written = rows_made.size ∙ ap (book_bytes_of q.form) rows-many
