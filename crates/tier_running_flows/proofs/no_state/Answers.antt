-- `no_state`: more are counted than held, or the flows are searched.
use borrow.Author.Tests.{lt-ltb, le-ltb}
use Rattle.tier_rules.specs.Cells.{held_in, counted_in}
use Rattle.tier_running_rules.specs.AddAward.{no_state_of}
use Rattle.tier_running_flows.proofs.no_state.Goals as goal

pub returns-then-numbers-counted : goal.returns-then-numbers-counted
unfolding no_state_of
returns-then-numbers-counted c = let n = c.args.numbers.now in rw (lt-ltb (held_in n) (counted_in n) c.if-numbers-counted.true)

pub returns-else-numbers-counted : goal.returns-else-numbers-counted
unfolding no_state_of
returns-else-numbers-counted c = let n = c.args.numbers.now in rw (le-ltb (held_in n) (counted_in n) c.if-numbers-counted.false) c.flows_beyond.ensures
