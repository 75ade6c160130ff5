-- Flows are sums.
use mathlib.Core.List.{List}
use Rattle.integers.proofs.Perms.{sum_over-perm}
use Rattle.tariff.specs.declared.contracts.Contract.{Contract}
use Rattle.tariff.specs.Units.{Factors}
use Rattle.tariff.specs.Feasibility.{flow, total_flow}
use Rattle.order_rules.specs.Reordering.{Reordered, SameFlows}
use Rattle.order_rules.proofs.Perms.{length-perm}

pub flows-perm : (f : Factors) (cs ds : List Contract) → Reordered cs ds → SameFlows f cs ds
unfolding total_flow
flows-perm f cs ds p = record { flows-same = λ k. sum_over-perm (λ (c : Contract). flow f c k) cs ds p; counted_same = length-perm cs ds p }
