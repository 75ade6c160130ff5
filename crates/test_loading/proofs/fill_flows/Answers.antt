-- `fill_flows`: the cells copied are the flows, and those behind are as they were.
use mathlib.Core.Path.{◌∙◌}
use native.Mathlib.Omega.{arith}
use lib.IntN.{pos}
use lib.ListN.{get_or}
use Rattle.lists.proofs.Lists.{length-list_to, take-is_list_to}
use Rattle.test_loading.proofs.fill_flows.Goals as goal

pub returns : goal.returns
returns c =
    let k = c.args.constraints in
    let cells = c.args.carried.flows in
    let e = c.copy_from_slice.ensures.after ∙ take-is_list_to k cells (pos 0) (omega (arith, c.requires.constraints_le_max_constraints.0)) in
    rw (length-list_to k (λ j. get_or cells j (pos 0)), e)
