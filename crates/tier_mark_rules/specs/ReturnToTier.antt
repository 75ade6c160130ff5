-- Returning to a tier's mark in a running test (document 02, paper 4: "Returning drops later awards, and marks made when more awards were held").
use Rattle.std.specs.Prelude.{◌≡◌, Bool, List, [], ◌++◌, ℕ, eqb, get_or, ℤ}
use Rattle.tier_mark_rules.specs.MarkTier.{MarkTierCall, mark_tier_call}
use Rattle.tariff.specs.declared.contracts.Period.{Period}
use Rattle.tariff.specs.declared.processes.Process.{Process}
use Rattle.tariff.specs.Refusals.{Checked}
use Rattle.tariff.specs.Units.{Grid}
use Rattle.tariff.specs.Refusals.{Check, first, answered, cell_after, ForC}
use Rattle.tier_rules.specs.Cells.{RunningAnswer}
use Rattle.tier_rules.specs.Tiers.{Tiers}
use Rattle.tier_rules.specs.Checks.{return_checks_of, is_unset}
use Rattle.tier_rules.specs.Runs.{returned_to}
use Rattle.tier_rules.specs.Cells.{flag_cell, state_cells, state_buffers, running_outcome, returned_numbers, returned_flows, GoesOn}

-- the call is that of marking
abbrev pub ReturnToTierCall : Type 0
ReturnToTierCall = MarkTierCall

abbrev pub return_to_tier_call : ℕ → List ℕ → List ℤ → ReturnToTierCall
return_to_tier_call = mark_tier_call

module _ (q : ReturnToTierCall) where
  -- 9 for the buffers, then "20 is for returning to an unset mark or naming any other tier"
  unfoldable pub return_listed : Bool → List Check
  return_listed unset = state_buffers q.numbers q.flows ++ return_checks_of q.tier unset

  -- over the cells a mark is unset where its flag is 0
  abbrev pub return_to_tier_checked : Checked
  return_to_tier_checked = first (return_listed (eqb (get_or q.numbers (flag_cell q.tier) 0) 0))

  -- over a state
  abbrev pub return_to_tier_checks : Tiers → List Check
  return_to_tier_checks s = return_listed (is_unset (s.mark q.tier))

  abbrev pub numbers_returned : List ℕ
  numbers_returned = cell_after return_to_tier_checked (returned_numbers q.tier q.numbers) q.numbers

  abbrev pub flows_returned : List ℤ
  flows_returned = cell_after return_to_tier_checked (returned_flows q.tier q.flows) q.flows

  -- of every running test in the buffers at entry, with whatever awards' cells, which are not taken
  abbrev pub ReturnGoesOn : List ℕ → List ℤ → Type 0
  ReturnGoesOn numbers flows = (g : Grid) (process : Process) (t : Period) (awards : List ℕ)
      → GoesOn g process t return_to_tier_checked return_to_tier_checks (returned_to q.tier)
      (state_cells awards q.numbers q.flows) (state_cells awards numbers flows)

-- the promise: the answer, and each buffer at exit
pub record ReturnsToTier (q : ReturnToTierCall) (answer : RunningAnswer) (numbers : List ℕ) (flows : List ℤ) : Type 0 where
  pub answer-given : running_outcome answer ≡ answered (return_to_tier_checked q) []
  pub numbers-returned : numbers ≡ numbers_returned q
  pub flows-returned : flows ≡ flows_returned q
  pub running : ReturnGoesOn q numbers flows

-- the same for C
abbrev pub ReturnsToTierForC : ReturnToTierCall → ℕ → List ℕ → List ℤ → Type 0
ReturnsToTierForC q number numbers flows = ForC RunningAnswer running_outcome (λ answer. ReturnsToTier q answer numbers flows) number
