-- `runs::write_run`: what was written before, and then the cells passed. The bytes behind the writer are as they were.
use mathlib.Core.Path.{refl}
use native.Mathlib.Omega.{arith}
use lib.ListN.{get_or}
use Rattle.bits.specs.Inner.{written}
use Rattle.bits.proofs.Writing.{goes_on, run_turn}
use Rattle.runs.proofs.write_run.Goals as goal

pub loop-cell-preserved : goal.loop-cell-preserved
loop-cell-preserved c =
    let a = c.args in
    let l = c.loop-cell in
    let e = c.put-writer.ensures in (
      omega (arith, e.result_value_2),
      run_turn a.width a.cells.now (written a.buf.now a.from) l.cell-index (get_or a.cells.now l.cell-index 0)
          (written l.buf l.writer) _ (omega arith) refl l.invariant.1 e.result_value,
      goes_on l.invariant.2 e.writes_on,
    )
