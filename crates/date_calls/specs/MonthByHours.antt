-- A month's on-peak hours are those that `hour_period` says are on-peak, and the same of the C functions. Beyond the papers. Statements only.
use Rattle.std.specs.Prelude.{◌≡◌, true, ℕ, suc, ◌<◌, Ok, Err}
use Rattle.lists.specs.Lent.{Lent, after}
use Rattle.largest_remainders.specs.Ranks.{add_to}
use Rattle.date_rules.specs.Dates.{month_days_of, month_exists_of}
use Rattle.dates.specs.Date.{date_for}
use Rattle.date_hours.specs.MonthHours.{HoursAnswer}
use Rattle.date_hours.specs.MonthHours.{TellsHours, TellsHoursForC}
use Rattle.date_period.specs.HourPeriod.{PeriodAnswer, period_number}
use Rattle.date_period.specs.HourPeriod.{TellsPeriod, TellsPeriodForC}

-- the period given, 1 on-peak
abbrev pub period_in : PeriodAnswer → ℕ
period_in (Ok period) = period_number period
period_in (Err r) = 0

-- hours ending 1 to 24
abbrev pub hours_of_day : ℕ
hours_of_day = 24

module _ (y m : ℕ) where
  -- what P says of day d and hour ending h holds of every hour of the month
  abbrev pub EachHour : (ℕ → ℕ → Type 0) → Type 0
  EachHour P = (j k : ℕ) → j < month_days_of y m → k < hours_of_day → P (suc j) (suc k)

  -- the figures of all hours of the month added up
  abbrev pub sum_of_hours : (ℕ → ℕ → ℕ) → ℕ
  sum_of_hours f = add_to (month_days_of y m) (λ j. add_to hours_of_day (λ k. f (suc j) (suc k)))

-- THE STATEMENTS, of every month of the table
pub record MonthByHours : Type 0 where
  pub month_by_hours : (y m : ℕ) → month_exists_of y m ≡ true → (periods : ℕ → ℕ → PeriodAnswer) → EachHour y m (λ d h. TellsPeriod (date_for y m d) h (periods d h))
      → (answer : HoursAnswer) → TellsHours y m answer → answer ≡ Ok (sum_of_hours y m (λ d h. period_in (periods d h)))
  -- the same of the C functions
  pub crr_month_by_hours : (y m : ℕ) → month_exists_of y m ≡ true → (number : ℕ → ℕ → ℕ) (period : ℕ → ℕ → Lent ℕ)
      → EachHour y m (λ d h. TellsPeriodForC (date_for y m d) h (number d h) (period d h)) → (refusal : ℕ) (hours : Lent ℕ) → TellsHoursForC y m refusal hours
      → (refusal ≡ 0) × (after hours ≡ sum_of_hours y m (λ d h. after (period d h)))
