-- `put_header`: the fields of the form, one after the other.
use Rattle.runs.proofs.Written.{written_start, written-put}
use Rattle.layouts.specs.GridFile.{grid_header}
use Rattle.grid_writing.proofs.put_header.Goals as goal

pub returns-in-Narrow : goal.returns-in-Narrow
unfolding grid_header
returns-in-Narrow c =
    let a = c.args in
    let e = c.put-past_nodes.ensures in
    let f = c.put-past_constraints.ensures in
    let g = c.put.ensures in
    let one = written-put (written_start a.file.now _ c.new-start.ensures) 8 _ _ a.nodes (e.result_value, (e.result_value_2, e.writes_on)) in
    let two = written-put one 7 _ _ a.constraints (f.result_value, (f.result_value_2, f.writes_on)) in
    rw c.in-Narrow.is (written-put two 1 _ _ 0 (g.result_value, (g.result_value_2, g.writes_on)))

pub returns-in-Wide : goal.returns-in-Wide
unfolding grid_header
returns-in-Wide c =
    let a = c.args in
    let e = c.put-past_field.ensures in
    let f = c.put-past_constraints-in-Wide.ensures in
    let g = c.put-past_spare.ensures in
    let h = c.put-in-Wide.ensures in
    let one = written-put (written_start a.file.now _ c.new-start.ensures) 8 _ _ 0 (e.result_value, (e.result_value_2, e.writes_on)) in
    let two = written-put one 7 _ _ a.constraints (f.result_value, (f.result_value_2, f.writes_on)) in
    let three = written-put two 1 _ _ 1 (g.result_value, (g.result_value_2, g.writes_on)) in
    rw c.in-Wide.is (written-put three 16 _ _ a.nodes (h.result_value, (h.result_value_2, h.writes_on)))
