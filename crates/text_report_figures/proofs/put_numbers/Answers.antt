-- `put_numbers`.
use native.Mathlib.Omega.{arith}
use Rattle.text_report_rules.specs.Report.{numbers_to}
use Rattle.text_format.proofs.Putting.{puts_none, puts_same, ◌and◌}
use Rattle.text_report_rules.proofs.Members.{numbers_more}
use Rattle.text_report_figures.proofs.put_numbers.Goals as goal

pub loop-k-init : goal.loop-k-init
unfolding numbers_to
loop-k-init c = (puts_none (omega (arith, c.requires.1)), omega arith)

pub loop-k-preserved : goal.loop-k-preserved
loop-k-preserved c =
    let m = c.put_member.ensures in
    let l = c.loop-k in (
      puts_same (numbers_more c.args.text.now.at l.text.at c.args.set l.k l.invariant.0.put.place) (l.invariant.0 and m.put),
      omega (arith, m.upper_bound, l.invariant.1),
    )
