-- Document 02, paper 4: the checks of a running test's operations, each list in the paper's order. Over a state here; over the cells in the operations' files.
use Rattle.std.specs.Prelude.{Bool, true, false, ◌||◌, List, [], ◌∷◌, ◌++◌, ℕ, ◌+◌, ltb, eqb, length, ℤ}
use Rattle.std.proofs.Math.Option.{Option, none, some}
use Rattle.grid_tables.specs.TableChecks.{grid_tables_with}
use Rattle.tariff.specs.declared.contracts.Contract.{Contract}
use Rattle.tariff.specs.declared.contracts.Period.{Period}
use Rattle.tariff.specs.declared.processes.Process.{Process}
use Rattle.tariff.specs.declared.refusals.Refusal.TheVariants.{TierMark, AwardOverload}
use Rattle.tariff.specs.Units.{Grid}
use Rattle.tariff.specs.ContractRules.{of_period}
use Rattle.tariff.specs.Feasibility.{overload_set}
use Rattle.tariff.specs.Refusals.{Check}
use Rattle.tariff.specs.Checks.{contract_count}
use Rattle.layouts.specs.BookTable.{row_at}
use Rattle.book_rules.specs.WriteBook.{row_checks}
use Rattle.tier_rules.specs.Tiers.{Tiers}

-- "tier 1, 2, 3 or LT (given as 4)"
abbrev pub max_tier : ℕ
max_tier = 4

-- 20: "naming any other tier"
abbrev pub tier_number : ℕ → Check
tier_number i = record { fails = eqb i 0 || ltb max_tier i; refusal = TierMark }

-- 20: "returning to an unset mark"
abbrev pub unset_mark : Bool → Check
unset_mark unset = record { fails = unset; refusal = TierMark }

-- 21: "some flow would exceed its released limit"
abbrev pub overload : Bool → Check
overload over = record { fails = over; refusal = AwardOverload }

-- "Opening and adding check as the test does up to 7": 2, 3, 16, 17, 9, 6, 7, with the lent buffers under the 9
unfoldable pub running_checks : ℕ → ℕ → ℕ → ℕ → List ℕ → List ℤ → List Check → List Check
running_checks n k process period limits factors buffers = grid_tables_with buffers n k process period limits factors

-- "Adding then checks 10 for a 1,001st award, then each field as the book writer does, then 21"
unfoldable pub award_checks : ℕ → ℕ → List ℕ → Check → List Check
award_checks n held award over = contract_count (held + 1) ∷ row_checks n award 0 ++ over ∷ []

-- "20 is for returning to an unset mark or naming any other tier"
unfoldable pub mark_checks : ℕ → List Check
mark_checks i = tier_number i ∷ []

unfoldable pub return_checks_of : ℕ → Bool → List Check
return_checks_of i unset = tier_number i ∷ unset_mark unset ∷ []

-- ---- over a state

-- the flows of the period's awards with one more; of the other period this is what is held
abbrev pub award_over : Grid → Process → Period → List Contract → Contract → Check
award_over g process t awards c = overload (ltb 0 (overload_set g process (of_period t (awards ++ c ∷ []))))

abbrev pub is_unset : Option ℕ → Bool
is_unset none = true
is_unset (some m) = false

abbrev pub add_checks : Grid → Process → Period → Tiers → List ℕ → List Check
add_checks g process t s award = award_checks g.factors.nodes (length s.awards) award (award_over g process t s.awards (row_at award 0))
