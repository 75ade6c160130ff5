-- Document 02, paper 14: "In the running tiers it is said of the awards held: another order of adding may draw 21 on the way." Nothing is said of the way.
-- Statements only.
use Rattle.std.specs.Prelude.{◌≡◌, true, List, ℕ, ◌<◌, length, get_or, pos, Err}
use Rattle.tariff.specs.declared.contracts.Contract.{Contract}
use Rattle.tariff.specs.declared.contracts.Period.{Period}
use Rattle.tariff.specs.declared.processes.Process.{Process}
use Rattle.tariff.specs.declared.refusals.Refusal.TheVariants.{AwardOverload}
use Rattle.tariff.specs.Units.{Grid, max_contracts}
use Rattle.tariff.specs.Refusals.{first}
use Rattle.tariff.specs.ContractRules.{of_period}
use Rattle.test_rules.specs.Theorems.{SameTest}
use Rattle.order_rules.specs.Reordering.{Reordered}
use Rattle.order_rules.specs.Relief.{Raised, OptionMore}
use Rattle.tier_rules.specs.Tiers.{Tiers, Reached}
use Rattle.tier_rules.specs.Checks.{award_over, add_checks}
use Rattle.tier_rules.specs.Cells.{held_in, counted_in, StateCells, HoldsTiers}

-- of two states of one opening: the same flow on each constraint, and as many awards held and counted
pub record SameStateCells (g : Grid) (cells other : StateCells) : Type 0 where
  pub flows-same : (k : ℕ) → k < g.factors.constraints → get_or cells.flows k (pos 0) ≡ get_or other.flows k (pos 0)
  pub counted_same : counted_in cells.numbers ≡ counted_in other.numbers
  pub held_same : held_in cells.numbers ≡ held_in other.numbers

-- THE STATEMENTS, for every grid, process and period of the opening
pub record AwardsHeld : Type 0 where
  -- the awards held in another order: the same cells, the same verdict, and the same awards draw 21 next
  pub held_reordered : (g : Grid) (t : Period) (s r : Tiers) (cells other : StateCells) → HoldsTiers g t s cells → HoldsTiers g t r other
      → Reordered s.awards r.awards → SameStateCells g cells other
  pub held_verdict : (g : Grid) (process : Process) (t : Period) (s r : Tiers) → Reordered s.awards r.awards
      → SameTest g process (of_period t s.awards) (of_period t r.awards)
  pub next-award_alike : (g : Grid) (process : Process) (t : Period) (held other : List Contract) (c : Contract) → Reordered held other
      → (award_over g process t held c).fails ≡ (award_over g process t other c).fails
  -- and adding an award finds the same, refusals included
  pub adding-alike : (g : Grid) (process : Process) (t : Period) (s r : Tiers) (award : List ℕ) → Reordered s.awards r.awards
      → first (add_checks g process t s award) ≡ first (add_checks g process t r award)
  -- with limits raised a state is still one that passes at every moment, and no award more draws 21
  pub limits-raised_reached : (low high : Grid) (process : Process) (t : Period) (s : Tiers) → Raised low high → Reached low process t s → Reached high process t s
  pub limits-raised_add_no_21 : (low high : Grid) (process : Process) (t : Period) (held : List Contract) (c : Contract) → Raised low high
      → (award_over high process t held c).fails ≡ true → (award_over low process t held c).fails ≡ true
  -- an award that draws 21 draws it too where an option more is held
  pub option_held_keeps_21 : (g : Grid) (process : Process) (t : Period) (held more : List Contract) (c : Contract) → OptionMore held more
      → (award_over g process t held c).fails ≡ true → (award_over g process t more c).fails ≡ true
  pub option_held_adding_draws_21 : (g : Grid) (process : Process) (t : Period) (s r : Tiers) (award : List ℕ) → OptionMore s.awards r.awards
      → length r.awards < max_contracts
      → first (add_checks g process t s award) ≡ Err AwardOverload → first (add_checks g process t r award) ≡ Err AwardOverload
