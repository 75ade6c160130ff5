-- THE THEOREM of finding the flows: its cells are what the test of the same tables and book compares with the released limits, in each process.
use mathlib.Core.Path.{◌≡◌, refl, sym, ap, ◌∙◌}
use mathlib.Core.List.{List}
use Prim.Native.Nat.{ℕ, ◌≤◌, ◌<◌}
use lib.ListN.{length, get_or}
use lib.IntN.{ℤ, pos, ◌-ℤ◌}
use lib.Signed.{lt_z}
use Rattle.lists.specs.Sets.{set_of}
use Rattle.lists.proofs.Sets.{set-cong}
use Rattle.tariff.specs.Refusals.{passed}
use Rattle.tariff.specs.Checks.{process_number}
use Rattle.tariff.specs.Feasibility.{total_flow, excess, overloaded, overload_set}
use Rattle.tariff.proofs.Checks.{first_passes, passed_cons}
use Rattle.grid_tables.specs.TableChecks.{grid_table_checks}
use Rattle.test_rules.specs.TestBook.{TestCall, test_checks, test_checked, tested_grid, tested_process, tested_contracts}
use Rattle.test_loading.specs.FindFlows.{FlowsAnswer}
use Rattle.test_loading.specs.FindFlows.{FlowsCall, FindsFlows}
use Rattle.test_loading.specs.Theorems.{test_as, released_at}
use Rattle.test_loading.proofs.Passing.{all-fits, flow-is}

module _ (q : FlowsCall) (answer : FlowsAnswer) (exit : List ℤ) (finds : FindsFlows q answer exit) (enough : q.constraints ≤ length q.place)
    (process : ℕ) (accepted : test_checked (test_as process q) ≡ passed) where
  abbrev test : TestCall
  test = test_as process q

  -- the same tables and book pass the checks with any process
  without-process : test_checked (test_as 0 q) ≡ passed
  unfolding test_checks grid_table_checks
  without-process =
      let two = passed_cons _ _ accepted in
      let three = passed_cons _ _ two.1 in
      let sixteen = passed_cons _ _ three.1 in
      first_passes _ _ two.0 ∙ first_passes _ _ three.0 ∙ first_passes (process_number 0) _ refl ∙ sixteen.1

  -- a cell is the flow that is tested
  pub cell_is_the_flow : (k : ℕ) → k < q.constraints → get_or exit k (pos 0) ≡ total_flow (tested_grid test).factors (tested_contracts test) k
  cell_is_the_flow k h = flow-is q exit (sym (all-fits q (test_checked (test_as 0 q)) refl without-process enough)) finds.flows-found k h

  -- the test by the cells alone
  pub overloaded-by_cell : (k : ℕ) → k < q.constraints → overloaded (tested_grid test) (tested_process test) (tested_contracts test) k ≡ lt_z (released_at test k) (get_or exit k (pos 0))
  unfolding overloaded
  overloaded-by_cell k h = ap (lt_z (released_at test k)) (sym (cell_is_the_flow k h))

  pub excess-by_cell : (k : ℕ) → k < q.constraints → excess (tested_grid test) (tested_process test) (tested_contracts test) k ≡ get_or exit k (pos 0) -ℤ released_at test k
  unfolding excess
  excess-by_cell k h = ap (λ (x : ℤ). x -ℤ released_at test k) (sym (cell_is_the_flow k h))

  -- the set that the test gives: the constraints whose cell exceeds the released limit
  pub set-by_cells : overload_set (tested_grid test) (tested_process test) (tested_contracts test) ≡ set_of q.constraints (λ (k : ℕ). lt_z (released_at test k) (get_or exit k (pos 0)))
  unfolding overload_set
  set-by_cells =
      set-cong q.constraints (overloaded (tested_grid test) (tested_process test) (tested_contracts test)) (λ (k : ℕ). lt_z (released_at test k) (get_or exit k (pos 0))) overloaded-by_cell
