-- Document 02, paper 4: runs of operations by their definitions, for the theorems on every state reached.
use Rattle.std.specs.Prelude.{List, [], ◌∷◌, ℕ}
use Rattle.std.proofs.Math.Option.{get_or}
use Rattle.tariff.specs.declared.contracts.Period.{Period}
use Rattle.tariff.specs.declared.processes.Process.{Process}
use Rattle.tariff.specs.Units.{Grid}
use Rattle.tariff.specs.Refusals.{first, decided}
use Rattle.layouts.specs.BookTable.{row_at}
use Rattle.tier_rules.specs.Tiers.{Tiers, with_award, marked, returned}
use Rattle.tier_rules.specs.Checks.{add_checks, mark_checks, return_checks_of, is_unset}

-- an award is handed in as a book's row of six cells, a tier by its number
pub data Operation : Type 0 where
  adding : List ℕ → Operation
  marking : ℕ → Operation
  returning : ℕ → Operation

-- returning to a tier's mark
abbrev pub returned_to : ℕ → Tiers → Tiers
returned_to i s = returned (get_or (s.mark i) 0) s

module _ (g : Grid) (process : Process) (t : Period) where
  -- the state after one operation: "each keeps the state unchanged" on a refusal
  unfoldable pub step : Tiers → Operation → Tiers
  step s (adding award) = decided (first (add_checks g process t s award)) (λ r. s) (with_award (row_at award 0) s)
  step s (marking i) = decided (first (mark_checks i)) (λ r. s) (marked i s)
  step s (returning i) = decided (first (return_checks_of i (is_unset (s.mark i)))) (λ r. s) (returned_to i s)

  -- every state of a run: the one at its start and the one after each operation
  unfoldable pub states : Tiers → List Operation → List Tiers
  states s [] = s ∷ []
  states s (op ∷ ops) = s ∷ states (step s op) ops
