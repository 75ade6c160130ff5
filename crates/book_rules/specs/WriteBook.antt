-- Writing a book from a table of six cells a contract (document 01, "When input is turned down" and "The three files"; document 02, paper 9: "writers are told
-- which to write").
use Rattle.std.specs.Prelude.{List, [], ◌∷◌, ◌++◌, ℕ, ◌+◌, ◌*◌, length, get_or}
use Rattle.lists.specs.Lent.{Lent, before, after}
use Rattle.tariff.specs.Refusals.{Checked}
use Rattle.tariff.specs.Refusals.{Check, first}
use Rattle.tariff.specs.Checks.{node_count, contract_count, kind_and_period, holder_range, short_table}
use Rattle.layouts.specs.Writing.{WriteAnswer}
use Rattle.layouts.specs.declared.forms.Form.{Form}
use Rattle.layouts.specs.Forms.{ends_below_of}
use Rattle.layouts.specs.BookFile.{book_bytes_of, book_file}
use Rattle.layouts.specs.BookTable.{contract_cells, row_at, rows_in}
use Rattle.layouts.specs.Writing.{Writes, WritesForC}
use Rattle.book_rules.specs.BookChecks.{checks_to, contract_checks}

-- the form, the node count, how many contracts, the table, and the place for the file as it is at entry
pub record WriteBookCall : Type 0 where
  pub form : Form
  pub nodes : ℕ
  pub contracts : ℕ
  pub table : List ℕ
  pub place : List ℕ

abbrev pub write_book_call : Form → ℕ → ℕ → List ℕ → List ℕ → WriteBookCall
write_book_call f n m table place = record { form = f; nodes = n; contracts = m; table = table; place = place }

-- contract by contract: "17 (here kind or period not 0 or 1), 18 (holder above 1,023), 11", 13, where an end not below so many draws 11
unfoldable pub row_checks : ℕ → List ℕ → ℕ → List Check
row_checks below table i =
    kind_and_period (get_or table (contract_cells * i) 0) (get_or table (contract_cells * i + 1) 0)
    ∷ holder_range (get_or table (contract_cells * i + 2) 0)
    ∷ contract_checks below (row_at table i)

module _ (q : WriteBookCall) where
  -- "2 for the node count, 10, 9, then contract by contract .., and 9 last"; "a narrow book's writer refuses an end above 255 by 11"
  unfoldable pub write_book_checks : List Check
  write_book_checks =
      node_count q.nodes
      ∷ contract_count q.contracts
      ∷ short_table (length q.table) (contract_cells * q.contracts)
      ∷ checks_to q.contracts (row_checks (ends_below_of q.form q.nodes) q.table)
      ++ short_table (length q.place) (book_bytes_of q.form q.contracts)
      ∷ []

  abbrev pub write_book_checked : Checked
  write_book_checked = first write_book_checks

  -- the file written
  abbrev pub book_written : List ℕ
  book_written = book_file q.form (rows_in q.contracts q.table)

-- the promise: the answer, and the place at exit
abbrev pub WritesBook : WriteBookCall → WriteAnswer → List ℕ → Type 0
WritesBook q answer exit = Writes (write_book_checked q) (book_written q) q.place answer exit

abbrev pub WritesBookForC : WriteBookCall → ℕ → List ℕ → Lent ℕ → Type 0
WritesBookForC q number exit bytes = WritesForC (write_book_checked q) (book_written q) q.place (before bytes) number exit (after bytes)
