-- Document 02, paper 1: "the date one month later, the day cut to the month's last".
use Rattle.std.specs.Prelude.{◌≡◌, cond, List, [], ◌∷◌, ℕ, ◌+◌, ◌/◌, ◌%◌, leb, ℤ, pos, Ok, Err, Result}
use Rattle.lists.specs.Lent.{Lent, before, after}
use Rattle.tariff.specs.Refusals.{Checked}
use Rattle.tariff.specs.Refusals.{Check, first, Outcome, given, refused_by, answered, cell_after, number_after}
use Rattle.dates.specs.declared.Date.{Date}
use Rattle.date_rules.specs.Dates.{month_days_of}
use Rattle.dates.specs.Date.{date_for, no_such_date}
use Rattle.tariff.specs.declared.refusals.Refusal.{Refusal}

-- year, month and day
abbrev pub date_values : Date → List ℤ
date_values date = pos date.year ∷ pos date.month ∷ pos date.day ∷ []

-- a date, or the refusal
abbrev pub DateAnswer : Type 0
DateAnswer = Result Date Refusal

abbrev pub date_outcome : DateAnswer → Outcome
date_outcome (Ok date) = given (date_values date)
date_outcome (Err r) = refused_by r

-- "the day cut to the month's last"
abbrev pub cut_to : ℕ → ℕ → ℕ
cut_to last day = cond (leb day last) day last

module _ (date : Date) where
  -- behind December stands January of the next year
  abbrev pub later_year : ℕ
  later_year = date.year + date.month / 12

  abbrev pub later_month : ℕ
  later_month = date.month % 12 + 1

  abbrev pub later_day : ℕ
  later_day = cut_to (month_days_of later_year later_month) date.day

  abbrev pub month_later_of : Date
  month_later_of = date_for later_year later_month later_day

  -- "A date .. that doesn't exist, or lies outside those years, given or reached, draws 19, the only check there"
  unfoldable pub month_later_checks : List Check
  month_later_checks = no_such_date date ∷ no_such_date month_later_of ∷ []

  abbrev pub month_later_checked : Checked
  month_later_checked = first month_later_checks

  -- the promise
  pub record ReachesMonthLater (answer : DateAnswer) : Type 0 where
    pub date_given : date_outcome answer ≡ answered month_later_checked (date_values month_later_of)

  -- the same for C
  pub record ReachesMonthLaterForC (number : ℕ) (year month day : Lent ℕ) : Type 0 where
    pub refusal-number : number ≡ number_after month_later_checked
    pub year_given : after year ≡ cell_after month_later_checked later_year (before year)
    pub month_given : after month ≡ cell_after month_later_checked later_month (before month)
    pub day_given : after day ≡ cell_after month_later_checked later_day (before day)
