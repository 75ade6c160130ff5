-- What inner functions and proofs say of loads that 23 does not turn down.
use Rattle.std.specs.Prelude.{List, ℕ, ◌≤◌, ◌<◌, length}
use Rattle.migration_rules.specs.Transfers.{load}

-- no LSE loses more to another than its load
pub record Within (lost : ℕ → ℕ → ℕ) (loads : List ℕ) : Type 0 where
  pub within : (i j : ℕ) → 0 < i → i ≤ length loads → 0 < j → j ≤ length loads → lost i j ≤ load loads i
