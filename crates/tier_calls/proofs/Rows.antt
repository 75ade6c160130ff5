-- The rows of the cells are the awards held, and the writer accepts them in a form that can hold their ends.
use mathlib.Core.Path.{◌≡◌, sym, ap, ◌∙◌}
use mathlib.Core.Bool.{false}
use mathlib.Core.List.{List, [], ◌∷◌, flat_map}
use Prim.Native.Nat.{ℕ, ◌+◌, ◌*◌, ◌≤◌, ◌<◌}
use native.Mathlib.Omega.{arith}
use borrow.Author.Tests.{le-ltb}
use lib.ListN.{length, get_or, take, length-take}
use lib.Seq.{get_or-take}
use Rattle.lists.specs.Lists.{Each}
use Rattle.lists.proofs.Lists.{list_to-cong, each_at}
use Rattle.tariff.specs.declared.contracts.Contract.{Contract}
use Rattle.std.specs.Prelude.{Ok}
use Rattle.tariff.specs.Refusals.{passed}
use Rattle.tariff.specs.Units.{max_holder, max_contracts}
use Rattle.tariff.specs.Refusals.{first}
use Rattle.tariff.specs.Checks.{node_count, short_table}
use Rattle.tariff.proofs.Checks.{first_passes, first-append, last-passes}
use Rattle.layouts.specs.declared.forms.Form.{Form}
use Rattle.layouts.specs.Forms.{ends_below_of}
use Rattle.layouts.specs.BookFile.{contract, book_bytes_of}
use Rattle.layouts.specs.BookTable.{contract_cells, cells_of, row_from, row_at, rows_in}
use Rattle.layouts.proofs.ContractBits.{kind-lt, period-lt}
use Rattle.layouts.proofs.BookTable.{length-cells, row-cells, rows-cells}
use Rattle.book_rules.specs.BookChecks.{checks_to}
use Rattle.book_rules.proofs.Checking.{checks_all}
use Rattle.book_rules.proofs.Accepted.{checks_below}
use Rattle.book_rules.specs.WriteBook.{write_book_call, row_checks, write_book_checks, write_book_checked}
use Rattle.book_rules.proofs.Taken.{cell_at}
use Rattle.tier_rules.specs.Tiers.{Award}
use Rattle.tier_rules.specs.Theorems.{EndsFit}

-- past the awards' end
abbrev none : Contract
none = contract 0 0 0 0 0 0

module _ (cs : List Contract) (table : List ℕ) (rows : take (contract_cells * length cs) table ≡ flat_map cells_of cs) where
  abbrev m : ℕ
  m = length cs

  long : contract_cells * m ≤ length table
  long = omega (arith, simp length-take at (ap length rows), length-cells cs)

  cell_is : (i j : ℕ) → i < m → j < contract_cells → get_or table (contract_cells * i + j) 0 ≡ get_or (cells_of (get_or cs i none)) j 0
  cell_is i j h b =
      sym (get_or-take (contract_cells * m) table (contract_cells * i + j) 0 (omega arith)) ∙ ap (λ (l : List ℕ). get_or l (contract_cells * i + j) 0) rows ∙ cell_at cs i j none h b

  first-is : (i : ℕ) → i < m → get_or table (contract_cells * i) 0 ≡ get_or (cells_of (get_or cs i none)) 0 0
  first-is i h = ap (λ (x : ℕ). get_or table x 0) {x = contract_cells * i} {y = contract_cells * i + 0} (omega arith) ∙ cell_is i 0 h (omega arith)

  row_is : (i : ℕ) → i < m → row_at table i ≡ row_at (flat_map cells_of cs) i
  unfolding row_from
  row_is i h =
      let at = contract_cells * i in
      let same : (j : ℕ) → j < contract_cells * m → get_or table j 0 ≡ get_or (flat_map cells_of cs) j 0
      = (λ j b. sym (get_or-take (contract_cells * m) table j 0 b) ∙ ap (λ (l : List ℕ). get_or l j 0) rows) in
      λ k. contract (same at (omega arith) k) (same (at + 1) (omega arith) k) (same (at + 2) (omega arith) k) (same (at + 3) (omega arith) k)
      (same (at + 4) (omega arith) k) (same (at + 5) (omega arith) k)

  pub rows-held : rows_in m table ≡ cs
  rows-held = list_to-cong m (row_at table) (row_at (flat_map cells_of cs)) row_is ∙ rows-cells cs

  module _ (f : Form) (n : ℕ) (each : Each (Award n) cs) (ends : Each (EndsFit f n) cs) where
    row-passes : (i : ℕ) → i < m → first (row_checks (ends_below_of f n) table i) ≡ passed
    unfolding row_checks cells_of
    row-passes i h =
        let c = get_or cs i none in
        let award = each_at (Award n) cs i none each h in
        let end = each_at (EndsFit f n) cs i none ends h in
        let kind : get_or table (contract_cells * i) 0 ≤ 1 = omega (arith, first-is i h, kind-lt c.kind) in
        let period : get_or table (contract_cells * i + 1) 0 ≤ 1 = omega (arith, cell_is i 1 h (omega arith), period-lt c.period) in
        let holder : get_or table (contract_cells * i + 2) 0 ≤ max_holder = omega (arith, cell_is i 2 h (omega arith), award.holder-few) in
        first_passes _ _ (rw (le-ltb 1 (get_or table (contract_cells * i) 0) kind) (le-ltb 1 (get_or table (contract_cells * i + 1) 0) period))
        ∙ first_passes _ _ (le-ltb max_holder (get_or table (contract_cells * i + 2) 0) holder)
        ∙ rw (row_is i h, row-cells cs i none h) (checks_below n (ends_below_of f n) c end.source_fits end.sink-fits award.checks_pass)

    pub rows_taken : (node_count n).fails ≡ false → m ≤ max_contracts → (place : List ℕ) → book_bytes_of f m ≤ length place → write_book_checked (write_book_call f n m table place) ≡ passed
    unfolding write_book_checks
    rows_taken nodes few place room =
        first_passes _ _ nodes
        ∙ first_passes _ _ (le-ltb max_contracts m few)
        ∙ first_passes _ _ (le-ltb (length table) (contract_cells * m) long)
        ∙ first-append (checks_to m (row_checks (ends_below_of f n) table)) (short_table (length place) (book_bytes_of f m) ∷ [])
        ∙ rw (checks_all (row_checks (ends_below_of f n) table) m row-passes) (last-passes _ (le-ltb (length place) (book_bytes_of f m) room))
