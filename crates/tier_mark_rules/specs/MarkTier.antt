-- Marking a tier of a running test (document 02, paper 4: "mark tier 1, 2, 3 or LT (given as 4)", "Marking again moves the mark").
use Rattle.std.specs.Prelude.{◌≡◌, List, [], ◌++◌, ℕ, ℤ}
use Rattle.tariff.specs.declared.contracts.Period.{Period}
use Rattle.tariff.specs.declared.processes.Process.{Process}
use Rattle.tariff.specs.Refusals.{Checked}
use Rattle.tariff.specs.Units.{Grid}
use Rattle.tariff.specs.Refusals.{Check, first, answered, cell_after, ForC}
use Rattle.tier_rules.specs.Cells.{RunningAnswer}
use Rattle.tier_rules.specs.Tiers.{marked}
use Rattle.tier_rules.specs.Checks.{mark_checks}
use Rattle.tier_rules.specs.Cells.{state_cells, state_buffers, running_outcome, marked_numbers, marked_flows, GoesOn}

-- the tier by its number, and the two buffers as they are at entry
pub record MarkTierCall : Type 0 where
  pub tier : ℕ
  pub numbers : List ℕ
  pub flows : List ℤ

abbrev pub mark_tier_call : ℕ → List ℕ → List ℤ → MarkTierCall
mark_tier_call i numbers flows = record { tier = i; numbers = numbers; flows = flows }

module _ (q : MarkTierCall) where
  -- 9 for the buffers, then "20 is for .. naming any other tier"
  unfoldable pub mark_tier_checks : List Check
  mark_tier_checks = state_buffers q.numbers q.flows ++ mark_checks q.tier

  abbrev pub mark_tier_checked : Checked
  mark_tier_checked = first mark_tier_checks

  abbrev pub numbers_marked : List ℕ
  numbers_marked = cell_after mark_tier_checked (marked_numbers q.tier q.numbers) q.numbers

  abbrev pub flows_marked : List ℤ
  flows_marked = cell_after mark_tier_checked (marked_flows q.tier q.flows) q.flows

  -- of every running test in the buffers at entry, with whatever awards' cells, which are not taken
  abbrev pub MarkGoesOn : List ℕ → List ℤ → Type 0
  MarkGoesOn numbers flows = (g : Grid) (process : Process) (t : Period) (awards : List ℕ)
      → GoesOn g process t mark_tier_checked (λ s. mark_tier_checks) (marked q.tier) (state_cells awards q.numbers q.flows) (state_cells awards numbers flows)

-- the promise: the answer, and each buffer at exit
pub record MarksTier (q : MarkTierCall) (answer : RunningAnswer) (numbers : List ℕ) (flows : List ℤ) : Type 0 where
  pub answer-given : running_outcome answer ≡ answered (mark_tier_checked q) []
  pub numbers-marked : numbers ≡ numbers_marked q
  pub flows-marked : flows ≡ flows_marked q
  pub running : MarkGoesOn q numbers flows

-- the same for C
abbrev pub MarksTierForC : MarkTierCall → ℕ → List ℕ → List ℤ → Type 0
MarksTierForC q number numbers flows = ForC RunningAnswer running_outcome (λ answer. MarksTier q answer numbers flows) number
