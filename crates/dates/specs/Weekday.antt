-- Document 02, paper 1: "A date tells its weekday".
use Rattle.std.specs.Prelude.{◌≡◌, List, [], ◌∷◌, ℕ, pos, Ok, Err, Result}
use Rattle.lists.specs.Lent.{Lent, before, after}
use Rattle.tariff.specs.Refusals.{Checked}
use Rattle.tariff.specs.Refusals.{Check, first, Outcome, given, refused_by, answered, cell_after, number_after}
use Rattle.dates.specs.declared.Date.{Date}
use Rattle.date_rules.specs.Dates.{weekday_of}
use Rattle.dates.specs.Date.{no_such_date}
use Rattle.tariff.specs.declared.refusals.Refusal.{Refusal}

-- a weekday, 1 Monday to 7, or the refusal
abbrev pub WeekdayAnswer : Type 0
WeekdayAnswer = Result ℕ Refusal

abbrev pub weekday_outcome : WeekdayAnswer → Outcome
weekday_outcome (Ok weekday) = given (pos weekday ∷ [])
weekday_outcome (Err r) = refused_by r

module _ (date : Date) where
  -- "A date .. that doesn't exist, or lies outside those years, given .., draws 19, the only check there"
  unfoldable pub weekday_checks : List Check
  weekday_checks = no_such_date date ∷ []

  abbrev pub weekday_checked : Checked
  weekday_checked = first weekday_checks

  abbrev pub weekday_is : ℕ
  weekday_is = weekday_of date.year date.month date.day

  -- the promise
  pub record TellsWeekday (answer : WeekdayAnswer) : Type 0 where
    pub weekday_given : weekday_outcome answer ≡ answered weekday_checked (pos weekday_is ∷ [])

  -- the same for C
  pub record TellsWeekdayForC (number : ℕ) (weekday : Lent ℕ) : Type 0 where
    pub refusal-number : number ≡ number_after weekday_checked
    pub weekday_given : after weekday ≡ cell_after weekday_checked weekday_is (before weekday)
