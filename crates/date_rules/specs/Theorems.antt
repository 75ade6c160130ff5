-- What the theorems of the calendar speak of: a month's holidays, its hours by one day less, the next weekday.
use Rattle.std.specs.Prelude.{Bool, ◌||◌, cond, List, [], ◌∷◌, ◌++◌, ℕ, zero, suc, ◌+◌, ◌-◌, ◌*◌, ◌%◌, eqb}
use Rattle.lists.specs.Sets.{count_of}
use Rattle.date_rules.specs.Dates.{month_days_of, weekday_of}
use Rattle.date_rules.specs.OnPeak.{holiday, hoursADay}

-- the days from 1 to n that f holds of
unfoldable pub days_with : ℕ → (ℕ → Bool) → List ℕ
days_with zero f = []
days_with (suc n) f = days_with n f ++ cond (f (suc n)) (suc n ∷ []) []

abbrev pub holidays_in : ℕ → ℕ → List ℕ
holidays_in y m = days_with (month_days_of y m) (holiday y m)

unfoldable pub sundays : ℕ → ℕ → ℕ
sundays y m = count_of (month_days_of y m) (λ k. eqb (weekday_of y m (suc k)) 7)

abbrev pub holiday_month : ℕ → Bool
holiday_month m = eqb m 1 || eqb m 5 || eqb m 7 || eqb m 9 || eqb m 11 || eqb m 12

-- moved or not, a holiday takes one day of its own month, and no other
unfoldable pub short_hours : ℕ → ℕ → ℕ
short_hours y m = hoursADay * (month_days_of y m - sundays y m - cond (holiday_month m) 1 0)

abbrev pub next_weekday : ℕ → ℕ
next_weekday w = w % 7 + 1
