-- The invariant of `migration_pairs::losers_of`.
use mathlib.Core.Path.{◌≡◌}
use mathlib.Core.List.{[]}
use Prim.Native.Nat.{ℕ, ◌<◌}
use lib.ListN.{length, get_or}
use Rattle.tariff.specs.Units.{max_entities}
use Rattle.migration_pairs.specs.Inner.{GainersOf, no_gainers_of}
use Rattle.migration_pairs.proofs.losers_of.Given as goal

abbrev pub invariant-loop-i : goal.invariant-loop-i
invariant-loop-i l = (length l.losers ≡ max_entities) × ((k : ℕ) → k < l.i → GainersOf (get_or l.row-items k []) l.entities (get_or l.losers k no_gainers_of))
