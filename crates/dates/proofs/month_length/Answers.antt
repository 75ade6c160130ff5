-- `month_length`: the array, and February's two lengths.
use mathlib.Core.Bool.{true, false}
use native.Mathlib.Omega.{arith}
use Rattle.date_rules.proofs.Months.{length-right}
use borrow.Author.Tests.{ne_eqb}
use Rattle.dates.proofs.month_length.Goals as goal

pub returns-then-month-ne2 : goal.returns-then-month-ne2
returns-then-month-ne2 c =
    let s = c in
    let a = s.args in
    rw c.from.ensures (rw (ne_eqb a.month 2 c.if-month-ne2.true) at (length-right a.leap a.month s.requires))

pub returns-then-leap : goal.returns-then-leap
returns-then-leap c = rw (c.if-month-ne2.false, c.if-leap.true) (length-right true 2 (omega arith))

pub returns-else-leap : goal.returns-else-leap
returns-else-leap c = rw (c.if-month-ne2.false, c.if-leap.false) (length-right false 2 (omega arith))
