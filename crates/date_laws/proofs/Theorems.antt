-- THE THEOREMS of every month of the table: one day less, weekdays follow each other from month to month, no month under 28 days.
use mathlib.Core.Path.{◌≡◌}
use mathlib.Core.Bool.{true}
use Prim.Native.Nat.{ℕ, ◌+◌, ◌/◌, ◌%◌, ◌≤◌}
use lib.Dec.{eqb, leb, eqb→eq, leb→le}
use Rattle.lists.specs.Sets.{count_of}
use Rattle.date_rules.specs.Dates.{leap, month_length_of, length_before_of, month_days_of, day_number_of, weekday_of, month_exists_of}
use Rattle.date_rules.specs.OnPeak.{weekdays_to, nth, last, holiday, observed, on_peak_day, on_peak_hours}
use Rattle.date_rules.specs.Theorems.{sundays, short_hours, next_weekday}
use Rattle.date_rules.proofs.Months.{month_in}
use Rattle.date_laws.proofs.AllMonths.{all-months}

-- ---- one day less in each month with a holiday

pub one_day_less : (y m : ℕ) → month_exists_of y m ≡ true → on_peak_hours y m ≡ short_hours y m
unfolding count_of leap month_length_of length_before_of day_number_of weekday_of weekdays_to nth last holiday observed on_peak_day on_peak_hours sundays short_hours
one_day_less y m e = eqb→eq (on_peak_hours y m) (short_hours y m) (all-months (λ y m. eqb (on_peak_hours y m) (short_hours y m)) tt y m (month_in y m e))

-- ---- weekdays follow each other

-- from a month's last day to the next month's first, over the years' ends too
pub next-month : (y m : ℕ) → month_exists_of y m ≡ true → weekday_of (y + m / 12) (m % 12 + 1) 1 ≡ next_weekday (weekday_of y m (month_days_of y m))
unfolding leap month_length_of length_before_of day_number_of weekday_of
next-month y m e = eqb→eq _ _ (all-months (λ y m. eqb (weekday_of (y + m / 12) (m % 12 + 1) 1) (next_weekday (weekday_of y m (month_days_of y m)))) tt y m (month_in y m e))

pub month_long : (y m : ℕ) → month_exists_of y m ≡ true → 28 ≤ month_days_of y m
unfolding leap month_length_of
month_long y m e = leb→le 28 (month_days_of y m) (all-months (λ y m. leb 28 (month_days_of y m)) tt y m (month_in y m e))
