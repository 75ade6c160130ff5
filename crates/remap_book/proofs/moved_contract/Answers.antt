-- `moved_contract`.
use mathlib.Core.Path.{ap, ◌∙◌}
use lib.ListN.{get_or}
use Rattle.tariff.specs.declared.contracts.Contract.{Contract}
use Rattle.remap_rules.specs.Inner.{moved_by}
use Rattle.remap_book.proofs.moved_contract.Goals as goal

pub end_at-requires : goal.end_at-requires
end_at-requires c = rw c.at-c.ensures c.requires.movable.source_known

pub end_at-requires-2 : goal.end_at-requires-2
end_at-requires-2 c = rw c.at-c.ensures c.requires.movable.sink-known

pub returns : goal.returns
unfolding moved_by
returns c =
    let k = c in
    let ends = k.args.ends.now in
    let e = k.at-c.ensures in
    λ t. record {
      kind = (e t).kind;
      period = (e t).period;
      holder = (e t).holder;
      source = (c.end_at.ensures ∙ ap (λ (x : Contract). get_or ends x.source 0) e) t;
      sink = (c.end_at-2.ensures ∙ ap (λ (x : Contract). get_or ends x.sink 0) e) t;
      quantity = (e t).quantity;
    }
