-- `leap_year`: the three tests.
use Rattle.date_rules.specs.Dates.{leap}
use Prim.Native.Nat.{◌%◌}
use borrow.Author.Tests.{eq-eqb, ne_eqb}
use Rattle.dates.proofs.leap_year.Goals as goal

pub returns-then-year-eq0 : goal.returns-then-year-eq0
unfolding leap
returns-then-year-eq0 c = let y = c.args.year in rw (eq-eqb (y % 400) 0 c.if-year-eq0.true)

pub returns-then-year-ne0 : goal.returns-then-year-ne0
unfolding leap
returns-then-year-ne0 c = let y = c.args.year in rw (ne_eqb (y % 400) 0 c.if-year-eq0.false, ne_eqb (y % 100) 0 c.if-year-ne0.true)

pub returns-else-year-ne0 : goal.returns-else-year-ne0
unfolding leap
returns-else-year-ne0 c = let y = c.args.year in rw (ne_eqb (y % 400) 0 c.if-year-eq0.false, eq-eqb (y % 100) 0 c.if-year-ne0.false)
