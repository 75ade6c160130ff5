-- Document 02, paper 14: reordering "keeps flows, overload set, sum and exact total, with each contract's cents moving with it". The figures that the test and
-- settlement give, of any two lists of contracts. Statements only.
use Rattle.std.specs.Prelude.{◌≡◌, List, map, ℕ, ◌<◌, length, get_or, pos}
use Rattle.tariff.specs.declared.contracts.Contract.{Contract}
use Rattle.tariff.specs.declared.contracts.Period.{Period}
use Rattle.tariff.specs.declared.processes.Process.{Process}
use Rattle.tariff.specs.Units.{Factors, Grid}
use Rattle.tariff.specs.ContractRules.{of_period}
use Rattle.order_rules.specs.Reordering.{Reordered}
use Rattle.test_rules.specs.TestBook.{test_values}
use Rattle.hour_rules.specs.SettleHour.{cents_of, priced_of, cents_sum, hour_total}

module _ (f : Factors) (p : List ℕ) (t : Period) (cs ds : List Contract) where
  -- the same sum of rounded cents, and the same exact total
  pub record SameTotals : Type 0 where
    pub sum_same : cents_sum f p t cs ≡ cents_sum f p t ds
    pub exact_same : hour_total f p t cs ≡ hour_total f p t ds

  -- where contract i of the one list is contract j of the other, cell i is cell j: cents, and paper 8's sets. There is none past a list's end.
  pub record CellsMove : Type 0 where
    pub cents-move : (i j : ℕ) (none : Contract) → i < length cs → j < length ds → get_or cs i none ≡ get_or ds j none
        → get_or (map (cents_of f p t) cs) i (pos 0) ≡ get_or (map (cents_of f p t) ds) j (pos 0)
    pub sets_move : (i j : ℕ) (none : Contract) → i < length cs → j < length ds → get_or cs i none ≡ get_or ds j none
        → get_or (map (priced_of f p t) cs) i 0 ≡ get_or (map (priced_of f p t) ds) j 0

-- THE STATEMENTS, for every grid, process, period and price list
pub record ReorderedValues : Type 0 where
  pub reorder_keeps_verdict : (g : Grid) (process : Process) (t : Period) (cs ds : List Contract) → Reordered cs ds
      → test_values g process (of_period t cs) ≡ test_values g process (of_period t ds)
  pub reorder_keeps_totals : (f : Factors) (p : List ℕ) (t : Period) (cs ds : List Contract) → Reordered cs ds → SameTotals f p t cs ds
  pub reorder_moves_cents : (f : Factors) (p : List ℕ) (t : Period) (cs ds : List Contract) → Reordered cs ds → CellsMove f p t cs ds
