-- What the theorem of the month step speaks of.
use Rattle.std.specs.Prelude.{◌≡◌, true, ◌+◌, ◌*◌, ◌≤◌}
use Rattle.date_rules.specs.Dates.{month_days_of, date_exists}
use Rattle.dates.specs.declared.Date.{Date}
use Rattle.dates.specs.MonthLater.{later_year, later_month, later_day}

-- it exists, is in the following month, and keeps the day where that month has it
pub record Stepped (date : Date) : Type 0 where
  pub exists : date_exists (later_year date) (later_month date) (later_day date) ≡ true
  pub in_the_following_month : later_year date * 12 + later_month date ≡ date.year * 12 + date.month + 1
  pub keeps_the_day : date.day ≤ month_days_of (later_year date) (later_month date) → later_day date ≡ date.day
