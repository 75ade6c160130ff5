-- Adding the flows of a book's contracts of one period to running totals: a step of a test of any size. As finding the flows, but the cells are added to.
use Rattle.std.specs.Prelude.{◌≡◌, List, [], ◌∷◌, ◌++◌, ℕ, ◌+◌, length, get_or, ℤ, pos, ◌+ℤ◌}
use Rattle.lists.specs.Lists.{list_to}
use Rattle.lists.specs.Lent.{Lent, before, after}
use Rattle.tariff.specs.Refusals.{Checked}
use Rattle.tariff.specs.Units.{Factors, factors_of}
use Rattle.tariff.specs.Refusals.{Check, first, answered, cells_after, cell_after, number_after}
use Rattle.tariff.specs.Feasibility.{total_flow}
use Rattle.test_loading.specs.FindFlows.{FlowsAnswer}
use Rattle.test_loading.specs.FindFlows.{FlowsCall, flows_call, find_flows_checks, counted_contracts, flows_outcome}
use Rattle.test_totals.specs.Totals.{totals_range, summed_count}

-- as finding the flows, whose place is now the totals so far, and how many contracts they are of
pub record AddFlowsCall : Type 0 where
  pub asked : FlowsCall
  pub count : ℕ

-- the totals as they are lent
abbrev pub add_flows_call : ℕ → ℕ → ℕ → List ℕ → List ℤ → List ℕ → Lent (List ℤ) → Lent ℕ → AddFlowsCall
add_flows_call n k period limits factors book flows count = record { asked = flows_call n k period limits factors book (before flows); count = before count }

module _ (q : AddFlowsCall) where
  -- how many contracts are counted in all
  abbrev pub summed : ℕ
  summed = q.count + length (counted_contracts q.asked)

  -- those of finding the flows; then 10 for cells that are no totals, and for too many contracts in all
  unfoldable pub add_flows_checks : List Check
  add_flows_checks = find_flows_checks q.asked ++ totals_range q.asked.constraints q.count q.asked.place ∷ summed_count summed ∷ []

  abbrev pub add_flows_checked : Checked
  add_flows_checked = first add_flows_checks

  abbrev pub added_factors : Factors
  added_factors = factors_of q.asked.nodes q.asked.constraints q.asked.factors

  -- each cell with the contracts' flow
  abbrev pub flows_summed : List ℤ
  flows_summed = list_to q.asked.constraints (λ j. get_or q.asked.place j (pos 0) +ℤ total_flow added_factors (counted_contracts q.asked) j)

-- the totals at exit
pub record TotalsLeft (q : AddFlowsCall) (flows : List ℤ) (count : ℕ) : Type 0 where
  pub flows-added : flows ≡ cells_after (add_flows_checked q) (flows_summed q) q.asked.place
  pub count-added : count ≡ cell_after (add_flows_checked q) (summed q) q.count

-- the promise: the answer, and the totals
pub record AddsFlows (q : AddFlowsCall) (answer : FlowsAnswer) (flows : List ℤ) (count : ℕ) : Type 0 where
  pub counted-given : flows_outcome answer ≡ answered (add_flows_checked q) (pos (length (counted_contracts q.asked)) ∷ [])
  pub totals : TotalsLeft q flows count

-- the same for C
pub record AddsFlowsForC (q : AddFlowsCall) (number : ℕ) (flows : List ℤ) (count : ℕ) (counted : Lent ℕ) : Type 0 where
  pub refusal-number : number ≡ number_after (add_flows_checked q)
  pub totals : TotalsLeft q flows count
  pub counted-given : after counted ≡ cell_after (add_flows_checked q) (length (counted_contracts q.asked)) (before counted)
