-- `row`: the cells of the node.
use mathlib.Core.Path.{◌≡◌}
use Prim.Native.Nat.{◌+◌, ◌-◌, ◌*◌}
use native.Mathlib.Omega.{arith}
use Rattle.grid_tables.proofs.Factors.{row-of}
use Rattle.grid_tables.proofs.table.FactorTable.row.Goals as goal

pub returns : goal.returns
returns c =
    let t = c.args.self in
    let from = c.args.node * t.constraints in
    let cut : from + t.constraints - from ≡ t.constraints = omega arith in
    rw cut (row-of t.nodes t.constraints t.cells.now t.good c.args.node c.requires)
