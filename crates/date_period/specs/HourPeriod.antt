-- Beyond the papers: an hour's period by the rule of document 02, paper 1, "On-peak is hours ending 7 to 22, Monday to Saturday, except ..".
use Rattle.std.specs.Prelude.{◌≡◌, Bool, not, ◌&&◌, cond, List, [], ◌∷◌, ℕ, leb, pos, Ok, Err, Result}
use Rattle.lists.specs.Lent.{Lent, before, after}
use Rattle.tariff.specs.declared.refusals.Refusal.TheVariants.{NoSuchDate}
use Rattle.tariff.specs.Refusals.{Checked}
use Rattle.tariff.specs.Refusals.{Check, first, Outcome, given, refused_by, answered, cell_after, number_after}
use Rattle.date_rules.specs.OnPeak.{first_hour, last_hour, on_peak_day}
use Rattle.dates.specs.declared.Date.{Date}
use Rattle.dates.specs.Date.{no_such_date}
use Rattle.tariff.specs.declared.contracts.Period.{Period}
use Rattle.tariff.specs.declared.contracts.Period.TheVariants.{OffPeak, OnPeak}
use Rattle.tariff.specs.declared.refusals.Refusal.{Refusal}

-- "0 off-peak or 1 on-peak" (document 01)
abbrev pub period_number : Period → ℕ
period_number OffPeak = 0
period_number OnPeak = 1

-- a period, or the refusal
abbrev pub PeriodAnswer : Type 0
PeriodAnswer = Result Period Refusal

abbrev pub period_outcome : PeriodAnswer → Outcome
period_outcome (Ok period) = given (pos (period_number period) ∷ [])
period_outcome (Err r) = refused_by r

unfoldable pub within : ℕ → ℕ → ℕ → Bool
within low high hour = leb low hour && leb hour high

-- hours ending 1 to 24, and 25, the hour that comes twice on the day whose clock is set back
abbrev pub hour_exists : ℕ → Bool
hour_exists = within 1 25

-- "hours ending 7 to 22": 25 is none of them
abbrev pub peak_hour : ℕ → Bool
peak_hour = within first_hour last_hour

-- 19, as for a date that doesn't exist
abbrev pub no_such_hour : ℕ → Check
no_such_hour hour = record { fails = not (hour_exists hour); refusal = NoSuchDate }

module _ (date : Date) (hour : ℕ) where
  unfoldable pub hour_period_checks : List Check
  hour_period_checks = no_such_date date ∷ no_such_hour hour ∷ []

  abbrev pub hour_period_checked : Checked
  hour_period_checked = first hour_period_checks

  -- the number of its period
  unfoldable pub period_is : ℕ
  period_is = cond (peak_hour hour && on_peak_day date.year date.month date.day) 1 0

  -- the promise
  pub record TellsPeriod (answer : PeriodAnswer) : Type 0 where
    pub period-given : period_outcome answer ≡ answered hour_period_checked (pos period_is ∷ [])

  -- the same for C
  pub record TellsPeriodForC (number : ℕ) (period : Lent ℕ) : Type 0 where
    pub refusal-number : number ≡ number_after hour_period_checked
    pub period-given : after period ≡ cell_after hour_period_checked period_is (before period)
