-- What a test in slices says of the whole, for every grid, of any number of nodes, constraints and contracts. Statements only.
use Rattle.std.specs.Prelude.{◌≡◌, ◌↔◌, List, ℕ, ◌<◌, ℤ, pos, ◌-ℤ◌, ◌≤ℤ◌}
use Rattle.tariff.specs.declared.contracts.Contract.{Contract}
use Rattle.tariff.specs.declared.contracts.Period.{Period}
use Rattle.tariff.specs.declared.processes.Process.{Process}
use Rattle.tariff.specs.Units.{Factors, Grid}
use Rattle.tariff.specs.ContractRules.{of_period}
use Rattle.tariff.specs.Feasibility.{flow, total_flow, released, Passes, excess}
use Rattle.tariff.specs.Shortfall.{PriceList, shortfall, one_cent, IsWorst}
use Rattle.slice_rules.specs.Slices.{Block, StandsFor, Sliced, slices_flow}

module _ (g : Grid) (process : Process) (t : Period) (book : List Contract) (s : Sliced g book) where
  -- what is compared in block i at its constraint j, by the slices alone
  abbrev pub block_flow : ℕ → ℕ → ℤ
  block_flow i j = slices_flow t (s.slices i) j

  abbrev pub block_released : ℕ → ℕ → ℤ
  block_released i j = pos (released (s.limits i) process j)

  -- every block passes: no flow of its slices exceeds its released limit
  pub record BlocksPass : Type 0 where
    pub within : (i j : ℕ) → i < s.cut.blocks → j < (s.cut.block i).size → block_flow i j ≤ℤ block_released i j

  -- THE STATEMENTS of one whole test
  pub record SlicesAreTheWhole : Type 0 where
    -- the slices' flow is the whole's
    pub flow-is : (i j : ℕ) → i < s.cut.blocks → j < (s.cut.block i).size
        → block_flow i j ≡ total_flow g.factors (of_period t book) ((s.cut.block i).number j)
    -- every block passes exactly when the whole passes, so exactly when the whole's worst shortfall is 0
    pub passes : BlocksPass ↔ Passes g process (of_period t book)
    pub worst-zero : BlocksPass ↔ IsWorst g process (of_period t book) (pos 0)
    -- the excess in a block is that of the whole, and the shortfall of the whole at one cent on that constraint
    pub excess-is : (i j : ℕ) → i < s.cut.blocks → j < (s.cut.block i).size
        → block_flow i j -ℤ block_released i j ≡ excess g process (of_period t book) ((s.cut.block i).number j)
    pub one_cent_list : (i j : ℕ) → i < s.cut.blocks → j < (s.cut.block i).size
        → PriceList g.factors.constraints (one_cent g.factors.constraints ((s.cut.block i).number j))
    pub one_cent_shortfall : (i j : ℕ) → i < s.cut.blocks → j < (s.cut.block i).size
        → shortfall g process (of_period t book) (one_cent g.factors.constraints ((s.cut.block i).number j)) ≡ block_flow i j -ℤ block_released i j

-- a contract's flow in a slice is its flow in the whole
abbrev pub SliceFlowIsTheWhole : Type 0
SliceFlowIsTheWhole = (whole : Factors) (b : Block) (slice : Factors) (c d : Contract) → StandsFor whole b slice c d
    → (j : ℕ) → j < b.size → flow slice d j ≡ flow whole c (b.number j)
