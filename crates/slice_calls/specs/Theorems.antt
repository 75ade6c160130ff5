-- What a whole test by calls says, for every grid, of any number of nodes, constraints and contracts. Beyond the papers. Statements only.
use Rattle.std.specs.Prelude.{◌≡◌, ◌↔◌, List, ◌++◌, ℕ, ◌<◌, ℤ, pos, ◌<ℤ◌}
use Rattle.tariff.specs.declared.contracts.Contract.{Contract}
use Rattle.tariff.specs.declared.contracts.Period.{Period}
use Rattle.tariff.specs.Units.{Factors, Grid}
use Rattle.tariff.specs.ContractRules.{of_period}
use Rattle.tariff.specs.Processes.{process_of}
use Rattle.tariff.specs.Feasibility.{Passes, excess}
use Rattle.tariff.specs.Shortfall.{PriceList, shortfall, one_cent, IsWorst}
use Rattle.slice_rules.specs.Slices.{Block}
use Rattle.slice_rules.specs.Totals.{Totals}
use Rattle.slice_calls.specs.Calls.{Step, Summed, IsPass, IsFail, TestedInSlices}

-- steps leave the totals of their contracts of the period
abbrev pub SummedAreTotals : Type 0
SummedAreTotals = (whole : Factors) (b : Block) (t : Period) (cs : List Contract) (flows : List ℤ) (count : ℕ) → Summed whole b t cs flows count
    → Totals whole b (of_period t cs) flows count

module _ (g : Grid) (process : ℕ) (t : Period) (book : List Contract) (s : TestedInSlices g process t book) where
  -- every block's answer is a pass
  abbrev pub AllPass : Type 0
  AllPass = (i : ℕ) → i < s.cut.blocks → IsPass (s.answer i)

  -- block i's answer is a fail that names constraint k of the grid with this excess
  pub record FailsAt (k : ℕ) (over : ℤ) : Type 0 where
    pub in_block : ℕ
    pub lowest : ℕ
    pub block-below : in_block < s.cut.blocks
    pub is-fail : IsFail (s.answer in_block) lowest over
    pub is-named : (s.cut.block in_block).number lowest ≡ k

  pub record SlicedTestIsRight : Type 0 where
    -- Demand 3 of the whole: all blocks pass exactly when the whole book passes on the whole grid, so exactly when its worst shortfall is 0
    pub pass_is_whole : AllPass ↔ Passes g (process_of process) (of_period t book)
    pub pass_is_worst_zero : AllPass ↔ IsWorst g (process_of process) (of_period t book) (pos 0)
    -- and where a block fails, the constraint named is one of the grid's, and the list with one cent there has as its shortfall the excess given, above 0
    pub fail_is_of_the_grid : (k : ℕ) (over : ℤ) → FailsAt k over → k < g.factors.constraints
    pub fail_is_its_excess : (k : ℕ) (over : ℤ) → FailsAt k over → excess g (process_of process) (of_period t book) k ≡ over
    pub fail_is_a_list : (k : ℕ) (over : ℤ) → FailsAt k over → PriceList g.factors.constraints (one_cent g.factors.constraints k)
    pub fail_is_its_shortfall : (k : ℕ) (over : ℤ) → FailsAt k over
        → shortfall g (process_of process) (of_period t book) (one_cent g.factors.constraints k) ≡ over
    pub fail_is_above_zero : (k : ℕ) (over : ℤ) → FailsAt k over → pos 0 <ℤ over
