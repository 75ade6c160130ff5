-- `length_before`: the array, and the leap day behind February.
use mathlib.Core.Bool.{true, false}
use Rattle.date_rules.proofs.Months.{before-right}
use borrow.Author.Tests.{le-leb, lt-leb}
use Rattle.dates.proofs.length_before.Goals as goal

pub returns-then-month-le2 : goal.returns-then-month-le2
returns-then-month-le2 c =
    let s = c in
    let a = s.args in
    rw c.from-before.ensures (rw (le-leb a.month 2 c.if-month-le2.true) at (before-right a.leap a.month s.requires))

pub returns-then-leap : goal.returns-then-leap
returns-then-leap c =
    let s = c in
    let m = s.args.month in
    rw (c.from-before.ensures, c.if-leap.true) (rw (lt-leb m 2 c.if-month-le2.false) at (before-right true m s.requires))

pub returns-else-leap : goal.returns-else-leap
returns-else-leap c =
    let s = c in
    let m = s.args.month in
    rw (c.from-before.ensures, c.if-leap.false) (rw (lt-leb m 2 c.if-month-le2.false) at (before-right false m s.requires))
