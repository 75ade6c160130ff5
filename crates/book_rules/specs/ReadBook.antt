-- Reading a book for a grid of a stated node count (document 01, "When input is turned down" and "The three files"; document 02, paper 9: "Readers take either
-- form").
use Rattle.std.specs.Prelude.{◌≡◌, ℕ, ◌*◌, length, ℤ, pos, Ok, Err, Result}
use mathlib.Core.List.{List, [], ◌∷◌, ◌++◌, flat_map}
use Rattle.lists.specs.Lent.{Lent, before, after}
use Rattle.tariff.specs.Refusals.{Checked}
use Rattle.tariff.specs.Refusals.{Check, first, Outcome, given, refused_by, answered, cells_after, cell_after, number_after}
use Rattle.tariff.specs.Checks.{node_count, short_table}
use Rattle.layouts.specs.declared.forms.Form.{Form}
use Rattle.layouts.specs.Forms.{form_number}
use Rattle.layouts.specs.BookFile.{contract_count_in, book_form_in, book_in}
use Rattle.layouts.specs.BookTable.{contract_cells, cells_of}
use Rattle.book_rules.specs.BookChecks.{book_checks}
use Rattle.tariff.specs.declared.refusals.Refusal.{Refusal}
use Rattle.book_rules.specs.declared.BookRead.{BookRead}

-- the node count, the file, and the lent table as it is at entry
pub record ReadBookCall : Type 0 where
  pub nodes : ℕ
  pub file : List ℕ
  pub table : List ℕ

abbrev pub read_book_call : ℕ → List ℕ → List ℕ → ReadBookCall
read_book_call n file table = record { nodes = n; file = file; table = table }

-- what reading a book answers: its count and form, or the refusal
abbrev pub BookAnswer : Type 0
BookAnswer = Result BookRead Refusal

abbrev pub book_read : ℕ → Form → BookAnswer
book_read m f = Ok (record { contracts = m; form = f })

-- how many contracts were read and the form's number, or the refusal's
abbrev pub book_outcome : BookAnswer → Outcome
book_outcome (Ok found) = given (pos found.contracts ∷ pos (form_number found.form) ∷ [])
book_outcome (Err r) = refused_by r

module _ (q : ReadBookCall) where
  -- "2 for that count, then 1 .. 10 .. 4, 5. Then contract by contract: 11 .. 13 .. Last, 9."
  unfoldable pub read_book_checks : List Check
  read_book_checks = node_count q.nodes ∷ book_checks q.nodes q.file ++ short_table (length q.table) (contract_cells * contract_count_in q.file) ∷ []

  abbrev pub read_book_checked : Checked
  read_book_checked = first read_book_checks

  abbrev pub book_values : List ℤ
  book_values = pos (contract_count_in q.file) ∷ pos (form_number (book_form_in q.file)) ∷ []

  -- six cells a contract
  abbrev pub book_cells : List ℕ
  book_cells = flat_map cells_of (book_in q.file)

-- the promise: the answer, and the table at exit
pub record ReadsBook (q : ReadBookCall) (answer : BookAnswer) (table : List ℕ) : Type 0 where
  pub values-given : book_outcome answer ≡ answered (read_book_checked q) (book_values q)
  pub contracts-read : table ≡ cells_after (read_book_checked q) (book_cells q) q.table

-- the same for C: the refusal's number, and the count and the form's number in lent figures
pub record ReadsBookForC (q : ReadBookCall) (number : ℕ) (table : List ℕ) (contracts form : Lent ℕ) : Type 0 where
  pub refusal-number : number ≡ number_after (read_book_checked q)
  pub contracts-read : table ≡ cells_after (read_book_checked q) (book_cells q) q.table
  pub count-given : after contracts ≡ cell_after (read_book_checked q) (contract_count_in q.file) (before contracts)
  pub form-given : after form ≡ cell_after (read_book_checked q) (form_number (book_form_in q.file)) (before form)
