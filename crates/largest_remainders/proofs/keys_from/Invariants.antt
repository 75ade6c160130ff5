use Rattle.std.proofs.Common.{◌≡◌}
use Rattle.largest_remainders.specs.Inner.{key_at}
use Rattle.largest_remainders.specs.Ranks.{keys_from_of}
use Rattle.largest_remainders.proofs.keys_from.Given as goal

abbrev pub invariant-loop-key : goal.invariant-loop-key
invariant-loop-key l = l.many ≡ keys_from_of l.key-index (key_at l.keys) l.least
