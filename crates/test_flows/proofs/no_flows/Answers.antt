-- `no_flows`.
use Rattle.test_rules.proofs.Flowing.{none-carried}
use Rattle.test_flows.proofs.no_flows.Goals as goal

pub returns : goal.returns
returns c = none-carried
