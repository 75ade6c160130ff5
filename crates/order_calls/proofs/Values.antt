-- The figures of the test are made of the flows, those of an hour are sums, and a cell is a function of its contract alone.
use mathlib.Core.Path.{◌≡◌, refl, sym, ap, ◌∙◌}
use mathlib.Core.List.{List, [], ◌∷◌, map}
use Prim.Native.Nat.{ℕ, zero, suc, ◌<◌}
use native.Mathlib.Omega.{arith}
use lib.ListN.{length, get_or}
use lib.IntN.{pos}
use Rattle.tariff.specs.declared.contracts.Contract.{Contract}
use Rattle.tariff.specs.declared.contracts.Period.{Period}
use Rattle.tariff.specs.declared.processes.Process.{Process}
use Rattle.tariff.specs.Units.{Factors, Grid}
use Rattle.tariff.specs.ContractRules.{of_period}
use Rattle.tariff.specs.Settlement.{amount, cents}
use Rattle.order_rules.specs.Reordering.{Reordered}
use Rattle.order_rules.proofs.Perms.{period-sum_perm}
use Rattle.order_rules.proofs.Theorems.{reordering}
use Rattle.test_rules.specs.TestBook.{test_values}
use Rattle.hour_rules.specs.SettleHour.{cents_of, priced_of, cents_sum, hour_total}
use Rattle.order_calls.specs.Values.{SameTotals, CellsMove}

pub verdict_kept : (g : Grid) (process : Process) (t : Period) (cs ds : List Contract) → Reordered cs ds
    → test_values g process (of_period t cs) ≡ test_values g process (of_period t ds)
verdict_kept g process t cs ds h = (reordering.reorder_keeps_overloads g process t cs ds h).figures-same

module _ (f : Factors) (p : List ℕ) (t : Period) (cs ds : List Contract) where
  pub totals-kept : Reordered cs ds → SameTotals f p t cs ds
  unfolding cents_sum hour_total
  totals-kept h = record { sum_same = period-sum_perm t (λ (c : Contract). cents (amount f p c)) cs ds h; exact_same = reordering.reorder_keeps_exact_total f p t cs ds h }

  pub cells-move : CellsMove f p t cs ds
  cells-move =
      record {
        cents-move = λ i j none hi hj e. cell_of_lem (cents_of f p t) cs i none (pos 0) hi ∙ ap (cents_of f p t) e ∙ sym (cell_of_lem (cents_of f p t) ds j none (pos 0) hj);
        sets_move = λ i j none hi hj e. cell_of_lem (priced_of f p t) cs i none 0 hi ∙ ap (priced_of f p t) e ∙ sym (cell_of_lem (priced_of f p t) ds j none 0 hj);
      }
    where
      cell_of_lem : {A B : Type 0} (h : A → B) (xs : List A) (i : ℕ) (a : A) (b : B) → i < length xs → get_or (map h xs) i b ≡ h (get_or xs i a)
      cell_of_lem h [] i a b l = absurd (omega arith)
      cell_of_lem h (x ∷ xs) zero a b l = refl
      cell_of_lem h (x ∷ xs) (suc i) a b l = cell_of_lem h xs i a b (omega arith)
