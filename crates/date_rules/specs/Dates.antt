-- Document 02, paper 1: dates of the Gregorian calendar, and 19 for one that does not exist. Days are counted from 1 January of year 1, a Monday.
use Rattle.std.specs.Prelude.{Bool, not, ◌&&◌, ◌||◌, cond, [], ◌∷◌, ℕ, zero, suc, ◌+◌, ◌-◌, ◌*◌, ◌/◌, ◌%◌, leb, eqb, get_or}
use Rattle.tariff.specs.declared.refusals.Refusal.TheVariants.{NoSuchDate}
use Rattle.tariff.specs.Refusals.{Check}

unfoldable pub leap : ℕ → Bool
leap y = eqb (y % 400) 0 || (not (eqb (y % 100) 0) && eqb (y % 4) 0)

-- the days of month m of a leap year, or of another; 0 where there is no such month
unfoldable pub month_length_of : Bool → ℕ → ℕ
month_length_of leapYear m = get_or (0 ∷ 31 ∷ cond leapYear 29 28 ∷ 31 ∷ 30 ∷ 31 ∷ 30 ∷ 31 ∷ 31 ∷ 30 ∷ 31 ∷ 30 ∷ 31 ∷ []) m 0

abbrev pub month_days_of : ℕ → ℕ → ℕ
month_days_of y m = month_length_of (leap y) m

-- the days of the months before month m
unfoldable pub length_before_of : Bool → ℕ → ℕ
length_before_of leapYear zero = 0
length_before_of leapYear (suc m) = length_before_of leapYear m + month_length_of leapYear m

-- the days of the first p years
abbrev pub years_length : ℕ → ℕ
years_length p = 365 * p + p / 4 - p / 100 + p / 400

unfoldable pub day_number_of : ℕ → ℕ → ℕ → ℕ
day_number_of y m d = years_length (y - 1) + length_before_of (leap y) m + d

-- "weekdays are numbered from 1, Monday, to 7"
unfoldable pub weekday_of : ℕ → ℕ → ℕ → ℕ
weekday_of y m d = (day_number_of y m d - 1) % 7 + 1

-- "January 2010 to December 2037"
abbrev pub first_year : ℕ
first_year = 2010

abbrev pub last_year : ℕ
last_year = 2037

unfoldable pub month_exists_of : ℕ → ℕ → Bool
month_exists_of y m = leb first_year y && leb y last_year && leb 1 m && leb m 12

unfoldable pub date_exists : ℕ → ℕ → ℕ → Bool
date_exists y m d = month_exists_of y m && leb 1 d && leb d (month_days_of y m)

-- 19: "A date or month that doesn't exist, or lies outside those years"
abbrev pub no_such_month : ℕ → ℕ → Check
no_such_month y m = record { fails = not (month_exists_of y m); refusal = NoSuchDate }
