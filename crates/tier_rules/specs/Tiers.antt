-- Document 02, paper 4, "Tiers to come back to": the awards held and the marks of a running test, what each operation makes of them, and what is known of every
-- state reached.
use Rattle.std.specs.Prelude.{◌≡◌, cond, List, [], ◌∷◌, ◌++◌, ℕ, ◌≤◌, leb, eqb, length, take, Ok}
use Rattle.std.proofs.Math.Option.{Option, none, some}
use Rattle.lists.specs.Lists.{Each}
use Rattle.tariff.specs.declared.contracts.Contract.{Contract}
use Rattle.tariff.specs.declared.contracts.Period.{Period}
use Rattle.tariff.specs.declared.processes.Process.{Process}
use Rattle.tariff.specs.Refusals.{passed}
use Rattle.tariff.specs.Units.{Grid, max_contracts, max_holder}
use Rattle.tariff.specs.ContractRules.{of_period}
use Rattle.tariff.specs.Refusals.{first}
use Rattle.tariff.specs.Feasibility.{Passes}
use Rattle.book_rules.specs.BookChecks.{contract_checks}

-- a running test: the awards held, in the order of adding, and of each tier how many were held when it was marked
pub record Tiers : Type 0 where
  pub awards : List Contract
  pub mark : ℕ → Option ℕ

abbrev pub opened : Tiers
opened = record { awards = []; mark = λ j. none }

abbrev pub with_award : Contract → Tiers → Tiers
with_award c s = record { awards = s.awards ++ c ∷ []; mark = s.mark }

-- "Marking again moves the mark."
abbrev pub marked : ℕ → Tiers → Tiers
marked i s = record { awards = s.awards; mark = λ j. cond (eqb j i) (some (length s.awards)) (s.mark j) }

-- a mark after returning to m awards: one made when more were held is dropped
abbrev pub kept : ℕ → Option ℕ → Option ℕ
kept m none = none
kept m (some x) = cond (leb x m) (some x) none

-- "Returning drops later awards, and marks made when more awards were held."
abbrev pub returned : ℕ → Tiers → Tiers
returned m s = record { awards = take m s.awards; mark = λ j. kept m (s.mark j) }

-- an award that a book of n nodes can hold
pub record Award (n : ℕ) (c : Contract) : Type 0 where
  pub checks_pass : first (contract_checks n c) ≡ passed
  pub holder-few : c.holder ≤ max_holder

-- What is known of a state that the operations gave: each award is one that a book can hold, there are at most 1,000, those of the period pass however many of
-- the first are taken, and no mark was made when more were held. It asks less than that the operations gave the state, so what is promised of it is more.
pub record Reached (g : Grid) (process : Process) (t : Period) (s : Tiers) : Type 0 where
  pub each : Each (Award g.factors.nodes) s.awards
  pub few : length s.awards ≤ max_contracts
  pub passes : (m : ℕ) → Passes g process (of_period t (take m s.awards))
  pub marks-held : (i m : ℕ) → s.mark i ≡ some m → m ≤ length s.awards
