-- Document 02, paper 1: "On-peak is hours ending 7 to 22, Monday to Saturday, except .."
use Rattle.std.specs.Prelude.{Bool, not, ◌&&◌, ◌||◌, ℕ, suc, ◌+◌, ◌-◌, ◌*◌, ◌/◌, ◌%◌, eqb}
use Rattle.lists.specs.Sets.{count_of}
use Rattle.date_rules.specs.Dates.{first_year, month_days_of, weekday_of}

-- how many of the days 1 to d of a month are weekday w
unfoldable pub weekdays_to : ℕ → ℕ → ℕ → ℕ → ℕ
weekdays_to w y m d = count_of d (λ k. eqb (weekday_of y m (suc k)) w)

-- whether a date is the n-th weekday w of its month
unfoldable pub nth : ℕ → ℕ → ℕ → ℕ → ℕ → Bool
nth n w y m d = eqb (weekday_of y m d) w && eqb (weekdays_to w y m d) n

-- whether it is the last one: as many come up to it as the month has
unfoldable pub last : ℕ → ℕ → ℕ → ℕ → Bool
last w y m = nth (weekdays_to w y m (month_days_of y m)) w y m

-- "May's last Monday"
abbrev pub last_monday : ℕ → ℕ → ℕ → Bool
last_monday = last 1

-- "September's first Monday"
abbrev pub first_monday : ℕ → ℕ → ℕ → Bool
first_monday = nth 1 1

-- "November's fourth Thursday"
abbrev pub fourth_thursday : ℕ → ℕ → ℕ → Bool
fourth_thursday = nth 4 4

-- "1 January, May's last Monday, 4 July, September's first Monday, November's fourth Thursday and 25 December"
unfoldable pub holiday : ℕ → ℕ → ℕ → Bool
holiday y m d =
    (eqb m 1 && eqb d 1)
    || (eqb m 5 && last_monday y m d)
    || (eqb m 7 && eqb d 4)
    || (eqb m 9 && first_monday y m d)
    || (eqb m 11 && fourth_thursday y m d)
    || (eqb m 12 && eqb d 25)

-- "A holiday on Sunday moves to Monday, one on Saturday doesn't move": a holiday, or a Monday whose day before is one. The move stays within the month: no
-- holiday that can be a Sunday is its month's last day; and there is none on day 0.
unfoldable pub observed : ℕ → ℕ → ℕ → Bool
observed y m d = holiday y m d || (eqb (weekday_of y m d) 1 && holiday y m (d - 1))

-- "Monday to Saturday, except .."
unfoldable pub on_peak_day : ℕ → ℕ → ℕ → Bool
on_peak_day y m d = not (eqb (weekday_of y m d) 7) && not (observed y m d)

-- "hours ending 7 to 22"
abbrev pub first_hour : ℕ
first_hour = 7

abbrev pub last_hour : ℕ
last_hour = 22

abbrev pub hoursADay : ℕ
hoursADay = last_hour - first_hour + 1

-- a month's on-peak hours
unfoldable pub on_peak_hours : ℕ → ℕ → ℕ
on_peak_hours y m = hoursADay * count_of (month_days_of y m) (λ k. on_peak_day y m (suc k))

-- "a table of 336 counts, January 2010 to December 2037": entry k, from 0
abbrev pub table_entries : ℕ
table_entries = 336

unfoldable pub table_entry : ℕ → ℕ
table_entry k = on_peak_hours (first_year + k / 12) (1 + k % 12)
