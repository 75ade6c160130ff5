-- The checks of finding the flows: the test's with process 0, which is never refused, then the place; and the cells of flows that are carried.
use mathlib.Core.Path.{◌≡◌, refl, sym, ap, ◌∙◌}
use mathlib.Core.List.{List, [], ◌∷◌, ◌++◌}
use Prim.Native.Nat.{ℕ, ◌≤◌, ◌<◌}
use borrow.Author.Tests.{ltb-false, lt-ltb, le-ltb}
use lib.ListN.{length, get_or}
use lib.IntN.{ℤ, pos}
use Rattle.lists.specs.Lists.{list_to}
use Rattle.lists.proofs.Lists.{length-list_to, get_d_list_to, list_to-cong}
use Rattle.lists.proofs.Fronts.{front_at}
use Rattle.tariff.specs.declared.refusals.Refusal.{Refusal}
use Rattle.tariff.specs.declared.refusals.Refusal.TheVariants.{ShortTable}
use Rattle.tariff.specs.Refusals.{Checked, passed}
use Rattle.std.specs.Prelude.{Err}
use Rattle.tariff.specs.declared.contracts.Contract.{Contract}
use Rattle.tariff.specs.Units.{Factors, factors_of}
use Rattle.tariff.specs.Refusals.{Check, first, cells_after}
use Rattle.tariff.specs.Checks.{short_table}
use Rattle.tariff.specs.Feasibility.{total_flow}
use Rattle.tariff.proofs.Checks.{append_refuses, append_passes, passed_append, passed_cons}
use Rattle.grid_tables.specs.TableChecks.{grid_table_checks}
use Rattle.test_rules.specs.declared.Flows.{Flows}
use Rattle.test_rules.specs.TestBook.{test_checks, test_checked}
use Rattle.test_rules.specs.Carried.{Carries}
use Rattle.test_rules.proofs.Checking.{Tested, tested}
use Rattle.test_loading.specs.FindFlows.{FlowsCall, find_flows_checks, find_flows_checked, counted_contracts, flow_cells}
use Rattle.test_loading.specs.Theorems.{test_as}

module _ (q : FlowsCall) where
  abbrev room : List Check
  room = short_table (length q.place) q.constraints ∷ []

  in_parts : find_flows_checked q ≡ first (test_checks (test_as 0 q) ++ room)
  unfolding first test_checks grid_table_checks find_flows_checks
  in_parts = refl

  -- x is what the test's checks found
  module _ (x : Checked) (found : x ≡ test_checked (test_as 0 q)) where
    pub test-refuses : (r : Refusal) → x ≡ Err r → Err r ≡ find_flows_checked q
    test-refuses r told = sym (in_parts ∙ append_refuses (test_checks (test_as 0 q)) room r (sym found ∙ told))

    then_room : x ≡ passed → find_flows_checked q ≡ first room
    then_room told = in_parts ∙ append_passes (test_checks (test_as 0 q)) room (sym found ∙ told)

    pub no_room : x ≡ passed → length q.place < q.constraints → Err ShortTable ≡ find_flows_checked q
    unfolding first
    no_room told h = sym (then_room told ∙ rw (lt-ltb (length q.place) q.constraints h))

    pub all-fits : x ≡ passed → q.constraints ≤ length q.place → passed ≡ find_flows_checked q
    unfolding first
    all-fits told h = sym (then_room told ∙ rw (le-ltb (length q.place) q.constraints h))

  -- what holds where none refuses
  pub record Ready : Type 0 where
    pub as_tested : Tested (test_as 0 q)
    pub room-enough : q.constraints ≤ length q.place

  pub ready : find_flows_checked q ≡ passed → Ready
  ready e =
      let both = passed_append (test_checks (test_as 0 q)) room (sym in_parts ∙ e) in
      record { as_tested = tested (test_as 0 q) both.0; room-enough = ltb-false (length q.place) q.constraints (passed_cons _ _ both.1).0 }

-- the flows carried are the contracts'
pub cells_are : (f : Factors) (cs : List Contract) (carried : Flows) → Carries f cs carried
    → list_to f.constraints (λ (k : ℕ). get_or carried.flows k (pos 0)) ≡ list_to f.constraints (total_flow f cs)
cells_are f cs carried h = list_to-cong f.constraints (λ (k : ℕ). get_or carried.flows k (pos 0)) (total_flow f cs) h.flows-are

-- cell k of a place that took the flows
pub flow-is : (q : FlowsCall) (x : List ℤ) → find_flows_checked q ≡ passed → x ≡ cells_after (find_flows_checked q) (flow_cells q) q.place
    → (k : ℕ) → k < q.constraints → get_or x k (pos 0) ≡ total_flow (factors_of q.nodes q.constraints q.factors) (counted_contracts q) k
flow-is q x ok is k l =
    let f = total_flow (factors_of q.nodes q.constraints q.factors) (counted_contracts q) in
    ap (λ (cells : List ℤ). get_or cells k (pos 0)) (is ∙ ap (λ (c : Checked). cells_after c (flow_cells q) q.place) ok)
    ∙ front_at (flow_cells q) q.place q.constraints (length-list_to q.constraints f) k (pos 0) l
    ∙ get_d_list_to q.constraints f k (pos 0) l
