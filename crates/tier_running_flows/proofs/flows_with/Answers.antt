-- `flows_with`: the flows held, and the award's added.
use Rattle.test_flows.proofs.Rows.{rows_in, rows_added}
use Rattle.tier_running_rules.proofs.Flowing.{room_of, with_added}
use Rattle.tier_running_flows.proofs.flows_with.Goals as goal

pub returns : goal.returns
returns c =
    let s = c in
    let a = s.args in
    with_added a.table.nodes a.table.constraints a.table.cells.now a.c a.numbers.now a.flows.now _ c.held_flows-tried.ensures s.requires.0 _ _
    (rows_added a.table.nodes a.table.constraints a.table.cells.now a.c s.requires.0 _ _ c.row-source.ensures c.row-sink.ensures _ _ c.add_flow.ensures)

pub held_flows-tried-requires : goal.held_flows-tried-requires
held_flows-tried-requires c = (c.args.table.good.few, c.requires.1.long)

pub add_flow-requires : goal.add_flow-requires
add_flow-requires c =
    let s = c in
    let a = s.args in (
      rows_in a.table.nodes a.table.constraints a.table.cells.now a.c s.requires.0 _ _ c.row-source.ensures c.row-sink.ensures,
      rw c.row-source.ensures.long (room_of a.table.nodes a.table.constraints a.table.cells.now a.c a.numbers.now a.flows.now _ c.held_flows-tried.ensures a.table.good.few s.requires.1),
    )
