-- What inner functions say: two blocks of flows within a buffer that do not overlap.
use Rattle.std.specs.Prelude.{◌⊎◌, List, ℕ, ◌+◌, ◌≤◌, length, ℤ}
use Rattle.tariff.specs.Units.{max_constraints}

pub record Apart (from to : ℕ) (flows : List ℤ) : Type 0 where
  pub source_in : from + max_constraints ≤ length flows
  pub target_in : to + max_constraints ≤ length flows
  pub apart : (from + max_constraints ≤ to) ⊎ (to + max_constraints ≤ from)
