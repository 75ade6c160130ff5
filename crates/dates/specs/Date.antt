-- Document 02, paper 1: a date, and 19 for one that does not exist.
use Rattle.std.specs.Prelude.{not, ℕ}
use Rattle.tariff.specs.declared.refusals.Refusal.TheVariants.{NoSuchDate}
use Rattle.tariff.specs.Refusals.{Check}
use Rattle.date_rules.specs.Dates.{date_exists}
use Rattle.dates.specs.declared.Date.{Date}

abbrev pub date_for : ℕ → ℕ → ℕ → Date
date_for y m d = record { year = y; month = m; day = d }

-- 19: "A date or month that doesn't exist, or lies outside those years"
abbrev pub no_such_date : Date → Check
no_such_date date = record { fails = not (date_exists date.year date.month date.day); refusal = NoSuchDate }
