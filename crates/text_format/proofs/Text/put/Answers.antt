-- `put`: what is copied so far.
use mathlib.Core.Path.{refl}
use native.Mathlib.Omega.{arith}
use lib.ListN.{length-set}
use lib.Seq.{take_all}
use Rattle.text_format.proofs.Putting.{copy_turn, puts}
use Rattle.text_format.proofs.Text.put.Goals as goal

pub loop-i-init : goal.loop-i-init
loop-i-init c = (refl, refl, refl, refl)

pub loop-i-preserved : goal.loop-i-preserved
loop-i-preserved c =
    let text = c.args.self.now in
    let l = c.loop-i in
    let more = copy_turn c.args.s.now text.buf.now l.self.buf.now text.at l.i (omega arith) l.invariant.3 in
    (l.invariant.0, l.invariant.1, simp length-set l.invariant.2, rw l.invariant.0 more)

pub returns : goal.returns
returns c =
    let s = c.args.s.now in
    let l = c.loop-i in
    puts l.invariant.1 (record { cells = rw (take_all l.i s (omega (arith, l.auto))) at l.invariant.3; place = omega (arith, l.invariant.0, l.auto); room = omega (arith, l.invariant.0, c.requires) })
