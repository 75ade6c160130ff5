-- The invariant of `migration_pairs::gainers_of`.
use Rattle.migration_pairs.specs.Inner.{GainersOf}
use Rattle.migration_pairs.proofs.gainers_of.Given as goal

abbrev pub invariant-loop-net : goal.invariant-loop-net
invariant-loop-net l = GainersOf l.fn.row l.net-index l.gainers
