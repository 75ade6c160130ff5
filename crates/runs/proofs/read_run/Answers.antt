-- `runs::read_run`: the cells passed hold the fields passed.
use mathlib.Core.Path.{sym, ◌∙◌}
use native.Mathlib.Omega.{arith}
use lib.ListN.{length}
use lib.Seq.{take_all}
use Rattle.bits.specs.Bits.{fields}
use Rattle.bits.proofs.Fields.{length_fields}
use Rattle.lists.proofs.Fill.{fill_turn}
use Rattle.runs.proofs.Runs.{run_at, run_in}
use Rattle.runs.proofs.read_run.Goals as goal

pub loop-i-preserved : goal.loop-i-preserved
loop-i-preserved c =
    let a = c.args in
    let i = c.loop-i.i in
    let n = length a.out.now in
    fill_turn (fields a.s.now a.offset a.width n) c.loop-i.out i c.loop-i.invariant _ 0 (omega arith) (run_in a.s.now a.offset a.width n i (omega arith))
    (run_at a.s.now a.offset a.width n i _ (omega arith) c.requires.run_bound c.field.ensures.0)

pub returns : goal.returns
returns c =
    let a = c.args in
    let run = fields a.s.now a.offset a.width (length a.out.now) in
    let i = c.loop-i.i in
    sym (take_all i c.loop-i.out (omega arith)) ∙ c.loop-i.invariant ∙ take_all i run (rw length_fields (omega arith))
