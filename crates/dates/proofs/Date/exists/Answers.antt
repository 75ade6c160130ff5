-- `Date::exists`: the month, then the day.
use mathlib.Core.Path.{◌≡◌, sym, ◌∙◌}
use mathlib.Core.Bool.{◌&&◌}
use lib.Dec.{leb}
use Rattle.date_rules.specs.Dates.{month_days_of, date_exists}
use Rattle.date_rules.proofs.Months.{month_in}
use Rattle.dates.proofs.Ranges.{range-test}
use Rattle.dates.proofs.Date.exists.Goals as goal

pub month_days-requires : goal.month_days-requires
month_days-requires c =
    let a = c.args.self in
    (month_in a.year a.month (sym c.month_exists.ensures ∙ c.if-month_exists.true)).month_high

pub returns-else-month_exists : goal.returns-else-month_exists
unfolding date_exists
returns-else-month_exists c = rw (sym c.month_exists.ensures, c.if-month_exists.false)

pub returns-then-month_exists : goal.returns-then-month_exists
unfolding date_exists
returns-then-month_exists c =
    let a = c.args.self in
    let s = c.new.ensures in
    let day : c.contains.result ≡ (leb 1 a.day && leb a.day (month_days_of a.year a.month)) =
    (rw (s.start, s.end, s.exhausted, c.month_days.ensures.0) at c.contains.ensures.value) ∙ range-test 1 (month_days_of a.year a.month) a.day in
    rw (sym c.month_exists.ensures, c.if-month_exists.true) day
