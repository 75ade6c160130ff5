-- A book as its reader left it in a lent table: the table's rows are the file's contracts, and the writer accepts them.
use mathlib.Core.Path.{◌≡◌, ap, ◌∙◌}
use mathlib.Core.List.{List, [], ◌∷◌, ◌++◌, flat_map}
use Prim.Native.Nat.{ℕ, zero, suc, ◌+◌, ◌*◌, ◌≤◌, ◌<◌}
use native.Mathlib.Omega.{arith}
use borrow.Author.Tests.{le-ltb}
use lib.ListN.{length, get_or, get_or-append}
use lib.Seq.{get_or-append-add}
use Rattle.lists.specs.Lent.{overwrite}
use Rattle.lists.proofs.Lists.{get_d_list_to, list_to-cong}
use Rattle.lists.proofs.Fronts.{front-room, front_at}
use Rattle.tariff.specs.declared.contracts.Contract.{Contract}
use Rattle.std.specs.Prelude.{Ok}
use Rattle.tariff.specs.Refusals.{passed}
use Rattle.tariff.specs.Units.{max_holder, max_contracts}
use Rattle.tariff.specs.Refusals.{first}
use Rattle.tariff.specs.Checks.{short_table}
use Rattle.tariff.proofs.Checks.{first_passes, first-append, last-passes, passed_cons, passed_append}
use Rattle.layouts.specs.declared.forms.Form.{Form}
use Rattle.layouts.specs.Forms.{ends_below_of}
use Rattle.layouts.specs.BookFile.{book_bytes_of, contract_count_in, book_form_in, contract_at, book_in}
use Rattle.layouts.specs.BookTable.{contract_cells, cells_of, row_from, row_at, rows_in}
use Rattle.layouts.proofs.BookFile.{length-book_in, contract-in_fits, end_below}
use Rattle.layouts.proofs.ContractBits.{kind-lt, period-lt, contract-is}
use Rattle.layouts.proofs.BookTable.{length-cells}
use Rattle.book_rules.specs.BookChecks.{checks_to, contract_checks, book_checks}
use Rattle.book_rules.proofs.Checking.{checks_all, checks_each}
use Rattle.book_rules.proofs.Accepted.{checks_below}
use Rattle.book_rules.specs.ReadBook.{read_book_call, read_book_checks, read_book_checked}
use Rattle.book_rules.specs.WriteBook.{write_book_call, row_checks, write_book_checks, write_book_checked}
use Rattle.book_rules.proofs.Passing.{Readable, readable}

-- ---- the cells of kind and period are bits

-- a cell behind a contract's six
behind : (c : Contract) (cells : List ℕ) (j k : ℕ) → k ≡ contract_cells + j → get_or (cells_of c ++ cells) k 0 ≡ get_or cells j 0
unfolding cells_of
behind c cells j k e = ap (λ (x : ℕ). get_or (cells_of c ++ cells) x 0) e ∙ get_or-append-add (cells_of c) cells j 0

-- cell j of contract i
pub cell_at : (cs : List Contract) (i j : ℕ) (d : Contract) → i < length cs → j < contract_cells → get_or (flat_map cells_of cs) (contract_cells * i + j) 0 ≡ get_or (cells_of (get_or cs i d)) j 0
unfolding flat_map cells_of
cell_at [] i j d h b = absurd (omega arith)
cell_at (c ∷ cs) zero j d h b = ap (λ (x : ℕ). get_or (cells_of c ++ flat_map cells_of cs) x 0) {x = contract_cells * 0 + j} {y = j} (omega arith) ∙ get_or-append (cells_of c) (flat_map cells_of cs) 0 j b
cell_at (c ∷ cs) (suc i) j d h b = behind c (flat_map cells_of cs) (contract_cells * i + j) (contract_cells * suc i + j) (omega arith) ∙ cell_at cs i j d (omega arith) b

-- ---- the table

module _ (n : ℕ) (s entry : List ℕ) (e : read_book_checked (read_book_call n s entry) ≡ passed) where
  abbrev M : ℕ
  M = contract_count_in s

  abbrev F : Form
  F = book_form_in s

  abbrev cells : List ℕ
  cells = flat_map cells_of (book_in s)

  abbrev left : List ℕ
  left = overwrite cells entry

  ok : Readable (read_book_call n s entry)
  ok = readable (read_book_call n s entry) e

  cells-many : length cells ≡ contract_cells * M
  cells-many = length-cells (book_in s) ∙ ap (λ (m : ℕ). contract_cells * m) (length-book_in s)

  cell_left : (i j : ℕ) → i < M → j < contract_cells → get_or left (contract_cells * i + j) 0 ≡ get_or (cells_of (contract_at s i)) j 0
  cell_left i j h b =
      front_at cells entry (contract_cells * M) cells-many (contract_cells * i + j) 0 (omega arith)
      ∙ cell_at (book_in s) i j (contract_at s i) (rw (length-book_in s) h) b
      ∙ ap (λ (c : Contract). get_or (cells_of c) j 0) (get_d_list_to M (contract_at s) i (contract_at s i) h)

  first-left : (i : ℕ) → i < M → get_or left (contract_cells * i) 0 ≡ get_or (cells_of (contract_at s i)) 0 0
  first-left i h = ap (λ (x : ℕ). get_or left x 0) {x = contract_cells * i} {y = contract_cells * i + 0} (omega arith) ∙ cell_left i 0 h (omega arith)

  row-left : (i : ℕ) → i < M → row_at left i ≡ contract_at s i
  unfolding row_from cells_of
  row-left i h =
      contract-is (contract_at s i) (first-left i h) (cell_left i 1 h (omega arith)) (cell_left i 2 h (omega arith)) (cell_left i 3 h (omega arith))
      (cell_left i 4 h (omega arith)) (cell_left i 5 h (omega arith))

  pub rows_left : rows_in M left ≡ book_in s
  rows_left = list_to-cong M (row_at left) (contract_at s) row-left

  row-passes : (i : ℕ) → i < M → first (row_checks (ends_below_of F n) left i) ≡ passed
  unfolding book_checks read_book_checks row_checks cells_of
  row-passes i h =
      let c = contract_at s i in
      let fits = contract-in_fits F s i in
      let in_range = ok.own.each i h in
      let kind : get_or left (contract_cells * i) 0 ≤ 1 = omega (arith, first-left i h, kind-lt c.kind) in
      let period : get_or left (contract_cells * i + 1) 0 ≤ 1 = omega (arith, cell_left i 1 h (omega arith), period-lt c.period) in
      let holder : get_or left (contract_cells * i + 2) 0 ≤ max_holder = omega (arith, cell_left i 2 h (omega arith), fits.holder-fits) in
      let own = (passed_append (book_checks n s) (short_table (length entry) (contract_cells * M) ∷ []) (passed_cons _ _ e).1).0 in
      let each = (passed_cons _ _ (passed_cons _ _ (passed_cons _ _ (passed_cons _ _ own).1).1).1).1 in
      first_passes _ _ (rw (le-ltb 1 (get_or left (contract_cells * i) 0) kind) (le-ltb 1 (get_or left (contract_cells * i + 1) 0) period))
      ∙ first_passes _ _ (le-ltb max_holder (get_or left (contract_cells * i + 2) 0) holder)
      ∙ rw (row-left i h)
      (checks_below n (ends_below_of F n) c (end_below F n c.source in_range.source-below fits.source_fits) (end_below F n c.sink in_range.sink-below fits.sink-fits)
      (checks_each (λ j. contract_checks n (contract_at s j)) M each i h))

  pub rows-accepted : (place : List ℕ) → length s ≤ length place → write_book_checked (write_book_call F n M left place) ≡ passed
  unfolding read_book_checks write_book_checks
  rows-accepted place room =
      let rows = row_checks (ends_below_of F n) left in
      first_passes _ _ (passed_cons _ _ e).0
      ∙ first_passes _ _ (le-ltb max_contracts M ok.own.few)
      ∙ first_passes _ _ (le-ltb (length left) (contract_cells * M) (front-room cells entry (contract_cells * M) cells-many))
      ∙ first-append (checks_to M rows) (short_table (length place) (book_bytes_of F M) ∷ [])
      ∙ rw (checks_all rows M row-passes) (last-passes _ (le-ltb (length place) (book_bytes_of F M) (omega (arith, ok.own.size))))
