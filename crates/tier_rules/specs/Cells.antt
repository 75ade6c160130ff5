-- Document 02, paper 4: a running test as three lent buffers, what each operation makes of their cells, and what the cells hold of a state.
use Rattle.std.specs.Prelude.{◌≡◌, Bool, cond, ℕ, zero, suc, ◌+◌, ◌-◌, ◌*◌, ◌≤◌, ◌<◌, ltb, length, get_or, set, take, drop, replicate, ℤ, pos, ◌+ℤ◌, Ok, Err}
use mathlib.Core.List.{List, [], ◌∷◌, ◌++◌, flat_map}
use Rattle.std.proofs.Math.Option.{Option, none, some}
use Rattle.lists.specs.Lists.{list_to}
use Rattle.lists.specs.Lent.{Lent, after, overwrite}
use Rattle.tariff.specs.declared.contracts.Contract.{Contract}
use Rattle.tariff.specs.declared.contracts.Period.{Period}
use Rattle.tariff.specs.declared.processes.Process.{Process}
use Rattle.tariff.specs.Refusals.{Checked}
use Rattle.tariff.specs.Units.{Factors, Grid, max_constraints, max_contracts}
use Rattle.tariff.specs.ContractRules.{of_period}
use Rattle.tariff.specs.Feasibility.{flow, total_flow}
use Rattle.tariff.specs.Refusals.{Check, first, decided, Outcome, given, refused_by, passed}
use Rattle.tariff.specs.Checks.{short_table}
use Rattle.tariff.specs.Shortfall.{IsWorst}
use Rattle.layouts.specs.BookTable.{contract_cells, cells_of}
use Rattle.test_rules.specs.TestBook.{test_values}
use Rattle.tier_rules.specs.Tiers.{Tiers, Reached}
use Rattle.tier_rules.specs.Checks.{max_tier}
use Rattle.std.specs.Prelude.{Result, ⊤}
use Rattle.tariff.specs.declared.refusals.Refusal.{Refusal}

-- ---- the buffers

-- a row of a book's table for each of 1,000 awards
abbrev pub awards_cells : ℕ
awards_cells = contract_cells * max_contracts

-- awards held, how many are counted (the period's), and of each tier whether it is marked and both numbers at its mark
abbrev pub state_numbers : ℕ
state_numbers = 2 + 3 * max_tier

abbrev pub held_in : List ℕ → ℕ
held_in numbers = get_or numbers 0 0

abbrev pub counted_in : List ℕ → ℕ
counted_in numbers = get_or numbers 1 0

abbrev pub flag_cell : ℕ → ℕ
flag_cell i = 3 * i - 1

abbrev pub held_cell : ℕ → ℕ
held_cell i = 3 * i

abbrev pub counted_cell : ℕ → ℕ
counted_cell i = 3 * i + 1

-- a flow for each of 64 constraints, those of the awards held and then those at each tier's mark
abbrev pub state_flows : ℕ
state_flows = max_constraints + max_constraints * max_tier

abbrev pub mark_block : ℕ → ℕ
mark_block i = max_constraints * i

pub record StateCells : Type 0 where
  pub awards : List ℕ
  pub numbers : List ℕ
  pub flows : List ℤ

abbrev pub state_cells : List ℕ → List ℕ → List ℤ → StateCells
state_cells awards numbers flows = record { awards = awards; numbers = numbers; flows = flows }

-- the buffers as a function leaves them
abbrev pub left_in : Lent (List ℕ) → Lent (List ℕ) → Lent (List ℤ) → StateCells
left_in awards numbers flows = state_cells (after awards) (after numbers) (after flows)

-- 9 for each of the two buffers that every operation takes
abbrev pub state_buffers : List ℕ → List ℤ → List Check
state_buffers numbers flows = short_table (length numbers) state_numbers ∷ short_table (length flows) state_flows ∷ []

-- what an operation on a running test answers: nothing, or the refusal
abbrev pub RunningAnswer : Type 0
RunningAnswer = Result ⊤ Refusal

-- success gives no figure: they stand in the buffers
abbrev pub running_outcome : RunningAnswer → Outcome
running_outcome (Ok _) = given []
running_outcome (Err r) = refused_by r

-- ---- what each operation makes of them

abbrev pub opened_numbers : List ℕ → List ℕ
opened_numbers numbers = overwrite (replicate state_numbers 0) numbers

abbrev pub opened_flows : List ℤ → List ℤ
opened_flows flows = overwrite (replicate state_flows (pos 0)) flows

-- an award behind those held
abbrev pub with_award_row : ℕ → Contract → List ℕ → List ℕ
with_award_row held c awards = take (contract_cells * held) awards ++ cells_of c ++ drop (contract_cells * held + contract_cells) awards

-- own: whether it is of the period. "An award of the other period is held, as one of the 1,000, but adds no flow and isn't in the count."
abbrev pub with_award_numbers : Bool → List ℕ → List ℕ
with_award_numbers own numbers = set (cond own (set numbers 1 (counted_in numbers + 1)) numbers) 0 (held_in numbers + 1)

-- the flow on constraint k with the award's
abbrev pub flow_with : Factors → Contract → List ℤ → ℕ → ℤ
flow_with f c flows k = get_or flows k (pos 0) +ℤ flow f c k

abbrev pub with_award_flows : Bool → Factors → Contract → List ℤ → List ℤ
with_award_flows own f c flows = cond own (overwrite (list_to f.constraints (flow_with f c flows)) flows) flows

-- the 64 cells from one place copied to another
abbrev pub copied : ℕ → ℕ → List ℤ → List ℤ
copied from to flows = take to flows ++ take max_constraints (drop from flows) ++ drop (to + max_constraints) flows

abbrev pub marked_numbers : ℕ → List ℕ → List ℕ
marked_numbers i numbers = set (set (set numbers (flag_cell i) 1) (held_cell i) (held_in numbers)) (counted_cell i) (counted_in numbers)

abbrev pub marked_flows : ℕ → List ℤ → List ℤ
marked_flows i flows = copied 0 (mark_block i) flows

-- the mark of a tier unset where more than m awards were held at it
abbrev pub drop_mark_of : ℕ → ℕ → List ℕ → List ℕ
drop_mark_of m j numbers = cond (ltb m (get_or numbers (held_cell j) 0)) (set numbers (flag_cell j) 0) numbers

-- the same of tiers 1 to j
unfoldable pub drop_marks_of : ℕ → ℕ → List ℕ → List ℕ
drop_marks_of m zero numbers = numbers
drop_marks_of m (suc j) numbers = drop_mark_of m (suc j) (drop_marks_of m j numbers)

-- "Returning drops .. marks made when more awards were held": than at the mark returned to
abbrev pub returned_numbers : ℕ → List ℕ → List ℕ
returned_numbers i numbers =
    set (set (drop_marks_of (get_or numbers (held_cell i) 0) max_tier numbers) 0 (get_or numbers (held_cell i) 0)) 1 (get_or numbers (counted_cell i) 0)

abbrev pub returned_flows : ℕ → List ℤ → List ℤ
returned_flows i flows = copied (mark_block i) 0 flows

-- ---- what they hold of a state

-- the flows of contracts in the cells from `at` on
pub record Block (g : Grid) (cs : List Contract) (flows : List ℤ) (at : ℕ) : Type 0 where
  pub flows-are : (k : ℕ) → k < g.factors.constraints → get_or flows (at + k) (pos 0) ≡ total_flow g.factors cs k

-- tier i was marked when the first m of the awards were held
pub record MarkAt (g : Grid) (t : Period) (awards : List Contract) (cells : StateCells) (i m : ℕ) : Type 0 where
  pub set_is : get_or cells.numbers (flag_cell i) 0 ≡ 1
  pub held_is : get_or cells.numbers (held_cell i) 0 ≡ m
  pub counted_is : get_or cells.numbers (counted_cell i) 0 ≡ length (of_period t (take m awards))
  pub block : Block g (of_period t (take m awards)) cells.flows (mark_block i)

abbrev pub MarkIs : Grid → Period → List Contract → StateCells → ℕ → Option ℕ → Type 0
MarkIs g t awards cells i none = get_or cells.numbers (flag_cell i) 0 ≡ 0
MarkIs g t awards cells i (some m) = MarkAt g t awards cells i m

-- "At every moment flows, count and verdict equal those worked out afresh over the awards still held"
pub record HoldsTiers (g : Grid) (t : Period) (s : Tiers) (cells : StateCells) : Type 0 where
  pub few : g.factors.constraints ≤ max_constraints
  pub rows : take (contract_cells * length s.awards) cells.awards ≡ flat_map cells_of s.awards
  pub held_is : held_in cells.numbers ≡ length s.awards
  pub counted_is : counted_in cells.numbers ≡ length (of_period t s.awards)
  pub block : Block g (of_period t s.awards) cells.flows 0
  pub marks : (i : ℕ) → 1 ≤ i → i ≤ max_tier → MarkIs g t s.awards cells i (s.mark i)

-- a state and its cells after an operation: "the verdict is always pass and the shortfall guarantee covers each state reached"
pub record Running (g : Grid) (process : Process) (t : Period) (s : Tiers) (cells : StateCells) : Type 0 where
  pub reached : Reached g process t s
  pub holds : HoldsTiers g t s cells
  pub worst-zero : IsWorst g process (of_period t s.awards) (pos 0)
  pub passes : test_values g process (of_period t s.awards) ≡ []

-- What an operation promises of every state at entry, "one that these operations gave, unaltered": what its checks find is what the paper's list over the state
-- finds, and the cells at exit hold the state that follows, or the same one where a check refuses.
pub record GoesOn (g : Grid) (process : Process) (t : Period) (checked : Checked) (checks : Tiers → List Check) (next : Tiers → Tiers) (entry exit : StateCells)
    : Type 0 where
  pub checks_are : (s : Tiers) → Reached g process t s → HoldsTiers g t s entry → checked ≡ first (checks s)
  pub runs_on : (s : Tiers) → Reached g process t s → HoldsTiers g t s entry → Running g process t (decided checked (λ r. s) (next s)) exit
