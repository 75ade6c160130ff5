use Rattle.std.proofs.Common.{◌+◌, ◌-◌, ◌≤◌, ◌<◌, length}
use Rattle.largest_remainders.specs.Inner.{key_at}
use Rattle.largest_remainders.proofs.Halving.{Between}
use Rattle.largest_remainders.proofs.threshold.Given as goal

abbrev pub invariant-loop-high : goal.invariant-loop-high
invariant-loop-high l = record {
  apart : l.low.at < l.high.at;
  within : l.high.at ≤ l.top;
  few_turns : l.turn + (l.high.at - l.low.at) ≤ l.top;
  between : Between (length l.keys) (key_at l.keys) l.wanted l.low.at l.low.keys l.high.at l.high.keys;
}

abbrev pub decreases-loop-high : goal.decreases-loop-high
decreases-loop-high l = l.high.at - l.low.at
