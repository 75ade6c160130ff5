-- `put_contracts`: the loop has put the lines of the contracts passed.
use native.Mathlib.Omega.{arith}
use Rattle.text_format.proofs.Putting.{◌and◌, puts_none, puts_same}
use Rattle.layouts.specs.BookFile.{contract_in}
use Rattle.text_statement_lines.specs.Inner.{lines_to}
use Rattle.text_statement_lines.proofs.Figures.{lines_more}
use Rattle.text_statement_lines.proofs.put_contracts.Goals as goal

pub loop-i-init : goal.loop-i-init
unfolding lines_to
loop-i-init c = (puts_none (omega (arith, c.requires)), omega arith)

pub loop-i-preserved : goal.loop-i-preserved
loop-i-preserved c =
    let m = c.put_own.ensures in
    let k = c.line.ensures in
    let l = c.loop-i in
    let b = c.args.book in (
      puts_same (lines_more c.args.period (contract_in b.contracts.form b.contracts.file.now) b.cents.now b.priced.now l.i _ _ _ k.contract k.cents k.priced)
          (l.invariant.0 and rw k.number at m.put),
      omega (arith, m.upper_bound, l.invariant.1),
    )
