-- What running totals of a block's flows hold, and when a block passes. Definitions only.
use Rattle.std.specs.Prelude.{◌≡◌, List, ℕ, ◌<◌, length, get_or, ℤ, pos, ◌≤ℤ◌}
use Rattle.tariff.specs.declared.contracts.Contract.{Contract}
use Rattle.tariff.specs.declared.processes.Process.{Process}
use Rattle.tariff.specs.Units.{Factors, Grid}
use Rattle.tariff.specs.Feasibility.{total_flow, released}
use Rattle.slice_rules.specs.Slices.{Block}

-- what the cells hold: of contracts cs of the whole, the total flow on each constraint of the block, and how many there are
pub record Totals (whole : Factors) (b : Block) (cs : List Contract) (flows : List ℤ) (count : ℕ) : Type 0 where
  pub flows-are : (j : ℕ) → j < b.size → get_or flows j (pos 0) ≡ total_flow whole cs (b.number j)
  pub count-is : count ≡ length cs

-- a block passes: the whole's contracts exceed no released limit on the block's constraints
pub record BlockPasses (g : Grid) (process : Process) (cs : List Contract) (b : Block) : Type 0 where
  pub within : (j : ℕ) → j < b.size → total_flow g.factors cs (b.number j) ≤ℤ pos (released g.limits process (b.number j))
