-- `counts_bad`: each test is of its condition.
use Rattle.tier_running_checks.proofs.counts_bad.Goals as goal

pub returns : goal.returns
returns c = rw c.nodes_bad-nodes_bad.ensures
