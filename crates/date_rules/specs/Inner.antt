-- The holidays as the code finds them, by the days of the month between which they fall.
use Rattle.std.specs.Prelude.{Bool, not, ◌&&◌, ◌||◌, ℕ, suc, ◌-◌, ◌*◌, leb, eqb}
use Rattle.lists.specs.Sets.{count_of}
use Rattle.date_rules.specs.Dates.{month_days_of, weekday_of}
use Rattle.date_rules.specs.OnPeak.{hoursADay}

-- whether a date is weekday w and one of the days a to b of its month
unfoldable pub between : ℕ → ℕ → ℕ → ℕ → ℕ → ℕ → Bool
between w a b y m d = leb a d && leb d b && eqb (weekday_of y m d) w

-- a last Monday of 31 days is from day 25 on
abbrev pub last_days : ℕ → ℕ → ℕ → Bool
last_days = between 1 25 31

-- a first one is up to day 7
abbrev pub first_days : ℕ → ℕ → ℕ → Bool
first_days = between 1 1 7

-- a fourth Thursday is from day 22 to day 28
abbrev pub fourth_days : ℕ → ℕ → ℕ → Bool
fourth_days = between 4 22 28

unfoldable pub holiday_by_days : ℕ → ℕ → ℕ → Bool
holiday_by_days y m d =
    (eqb m 1 && eqb d 1)
    || (eqb m 5 && last_days y m d)
    || (eqb m 7 && eqb d 4)
    || (eqb m 9 && first_days y m d)
    || (eqb m 11 && fourth_days y m d)
    || (eqb m 12 && eqb d 25)

unfoldable pub observed_by_days : ℕ → ℕ → ℕ → Bool
observed_by_days y m d = holiday_by_days y m d || (eqb (weekday_of y m d) 1 && holiday_by_days y m (d - 1))

unfoldable pub on_peak_by_days_of : ℕ → ℕ → ℕ → Bool
on_peak_by_days_of y m d = not (eqb (weekday_of y m d) 7) && not (observed_by_days y m d)

unfoldable pub hours_by_days_of : ℕ → ℕ → ℕ
hours_by_days_of y m = hoursADay * count_of (month_days_of y m) (λ k. on_peak_by_days_of y m (suc k))
