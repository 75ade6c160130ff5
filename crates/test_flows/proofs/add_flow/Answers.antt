-- `add_flow`: the cells below k have the contract's flow, the others are as they were.
use Rattle.std.proofs.Common.{◌≡◌, ◌*◌, ◌<◌, arith, lit<, length, pos, get_or}
use Rattle.tariff.specs.Units.{max_contracts, max_flow}
use Rattle.test_rules.proofs.Flowing.{cell_done, cell_rest, kept-sized, sum_is}
use Rattle.test_flows.specs.Inner.{flow_by}
use Rattle.test_flows.proofs.Rows.{row-flow, row-small, front-long, front-sized, joined-long, joined-cell}
use Rattle.test_flows.proofs.add_flow.Goals as goal

pub add-requires : goal.add-requires
add-requires c =
    let a = c.args in
    let l = c.loop-k in
    let b : l.k < length a.source.now = omega arith in
    let more = row-small a.source.now a.sink.now a.c c.requires.0 l.k b _ c.counted_flow-more.ensures in
    let old = front-sized (length a.source.now) a.flows.now c.requires.1 l.k b _ (l.invariant.1 l.k (omega arith)) in
    omega (arith, more, kept-sized (get_or l.flow-items l.k (pos 0)) (max_flow * max_contracts) (lit< tt) old)

pub loop-k-preserved : goal.loop-k-preserved
loop-k-preserved c =
    let a = c.args in
    let l = c.loop-k in
    let b : l.k < length a.source.now = omega arith in
    let f = flow_by a.source.now a.sink.now a.c in
    let more = row-small a.source.now a.sink.now a.c c.requires.0 l.k b _ c.counted_flow-more.ensures in
    let is = row-flow a.source.now a.sink.now a.c c.requires.0 l.k b _ c.counted_flow-more.ensures in
    let old = front-sized (length a.source.now) a.flows.now c.requires.1 l.k b _ (l.invariant.1 l.k (omega arith)) in
    let total = sum_is _ _ c.add.result.0 (f l.k) old more c.add.ensures is in (
      cell_done _ l.flow-items f l.k l.invariant.0 l.invariant.1 _ (omega arith) total,
      cell_rest _ l.flow-items f l.k l.invariant.0 l.invariant.1 _,
    )

pub returns : goal.returns
returns c =
    let a = c.args in
    let k = length a.source.now in
    let l = c.loop-k in
    let long : length l.flow-items ≡ k = omega (arith, front-long k a.flows.now c.requires.1) in
    record {
      length-kept = joined-long k a.flows.now c.requires.1 l.flow-items long;
      flows-added = λ j b. joined-cell k a.flows.now c.requires.1 l.flow-items long j b _ (l.invariant.0 j (omega arith));
    }
