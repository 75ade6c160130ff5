-- Document 02, paper 14: "another order of adding may draw 21 on the way". Case L's factors under limits of 3,000 and 50,000, monthly, on-peak: an award from
-- node 1 to node 0 of 5,000 makes room for one from node 0 to node 1 of 10,000.
use Rattle.std.specs.Prelude.{◌≡◌, List, [], ◌∷◌, ℕ, ℤ, pos, neg_ℤ, Err}
use Rattle.tariff.specs.declared.contracts.Period.TheVariants.{OnPeak}
use Rattle.tariff.specs.declared.processes.Process.TheVariants.{Monthly}
use Rattle.tariff.specs.declared.refusals.Refusal.TheVariants.{AwardOverload}
use Rattle.tariff.specs.Units.{Grid, grid_of}
use Rattle.tariff.specs.ContractRules.{of_period}
use Rattle.tariff.specs.Refusals.{first}
use Rattle.tariff.specs.Feasibility.{total_flow}
use Rattle.layouts.specs.BookTable.{row_at}
use Rattle.tier_rules.specs.Tiers.{Tiers, opened}
use Rattle.tier_rules.specs.Checks.{add_checks}
use Rattle.tier_rules.specs.Runs.{adding, step}

abbrev pub narrowed : Grid
narrowed = grid_of 3 2 (3000 ∷ 50000 ∷ []) (pos 60000 ∷ neg_ℤ (pos 20000) ∷ pos 0 ∷ pos 0 ∷ neg_ℤ (pos 10000) ∷ pos 40000 ∷ [])

-- the two awards as rows of a book's table: kind, period, holder, source, sink, quantity
abbrev pub relieving : List ℕ
relieving = 0 ∷ 1 ∷ 7 ∷ 1 ∷ 0 ∷ 5000 ∷ []

abbrev pub loading : List ℕ
loading = 0 ∷ 1 ∷ 7 ∷ 0 ∷ 1 ∷ 10000 ∷ []

-- a run that adds two awards
abbrev pub added : List ℕ → List ℕ → Tiers
added a b = step narrowed Monthly OnPeak (step narrowed Monthly OnPeak opened (adding a)) (adding b)

abbrev pub flows_held : Tiers → List ℤ
flows_held s = total_flow narrowed.factors (of_period OnPeak s.awards) 0 ∷ total_flow narrowed.factors (of_period OnPeak s.awards) 1 ∷ []

pub record OnTheWay : Type 0 where
  -- both are held the one way round
  pub both-held : (added relieving loading).awards ≡ row_at relieving 0 ∷ row_at loading 0 ∷ []
  pub both-flows : flows_held (added relieving loading) ≡ pos 300000000 ∷ neg_ℤ (pos 100000000) ∷ []
  -- the other way round the first draws 21, and the second is held alone
  pub first-draws_21 : first (add_checks narrowed Monthly OnPeak opened loading) ≡ Err AwardOverload
  pub one_held : (added loading relieving).awards ≡ row_at relieving 0 ∷ []
  pub one_flows : flows_held (added loading relieving) ≡ neg_ℤ (pos 300000000) ∷ pos 100000000 ∷ []
