-- `clears`: the cut is enough at the constraints below k.
use mathlib.Core.Path.{refl}
use Rattle.integers.proofs.Machine.{back}
use Rattle.cut_rules.specs.Inner.{enough}
use Rattle.cut_rules.proofs.Turns.{enough-turn, enough-fails}
use Rattle.cut_needs.specs.Inner.{cell_at, slope_in}
use Rattle.cut_needs.proofs.Reliefs.{relief_is, over-so, within-so}
use Rattle.cut_needs.proofs.ExcessTable.clears.Goals as goal

pub loop-k-init : goal.loop-k-init
unfolding enough
loop-k-init c = refl

pub returns-then-lt : goal.returns-then-lt
returns-then-lt c =
    let t = c.args.self in
    let f = t.test.grid.factors in
    let k = c.loop-k.k in
    let h = c.loop-k-test.true in
    let e = cell_at t.cells.now in
    let w = slope_in f.constraints f.cells.now c.args.c in
    let relief = relief_is f.nodes f.constraints f.cells.now f.good c.args.c c.requires.0 _ _ c.row-source.ensures c.row-sink.ensures k h _ c.args.cut.0 c.counted_flow-relief.ensures in
    let over = over-so (e k) _ _ _ (back (e k) (t.sized.sized k h)) relief c.lt.result c.lt.ensures c.if-lt.true in
    enough-fails e w f.constraints k c.args.cut.0 h over

pub loop-k-preserved : goal.loop-k-preserved
loop-k-preserved c =
    let t = c.args.self in
    let f = t.test.grid.factors in
    let k = c.loop-k.k in
    let h = c.loop-k-test.true in
    let e = cell_at t.cells.now in
    let w = slope_in f.constraints f.cells.now c.args.c in
    let relief = relief_is f.nodes f.constraints f.cells.now f.good c.args.c c.requires.0 _ _ c.row-source.ensures c.row-sink.ensures k h _ c.args.cut.0 c.counted_flow-relief.ensures in
    let within = within-so (e k) _ _ _ (back (e k) (t.sized.sized k h)) relief c.lt.result c.lt.ensures c.if-lt.false in
    enough-turn e w k c.args.cut.0 c.loop-k.invariant within
