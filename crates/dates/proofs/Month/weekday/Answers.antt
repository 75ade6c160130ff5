-- `Month::weekday`: by its callee.
use mathlib.Core.Path.{sym}
use Rattle.date_rules.specs.Dates.{weekday_of}
use Rattle.dates.proofs.Month.weekday.Goals as goal

pub returns : goal.returns
unfolding weekday_of
returns c = rw (sym c.day_number.ensures.0)
