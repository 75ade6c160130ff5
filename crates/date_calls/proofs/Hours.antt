-- The hours of a month, day by day: sixteen on each on-peak day.
use mathlib.Core.Path.{◌≡◌, refl, sym, ap, ◌∙◌}
use mathlib.Core.Bool.{Bool, true, false, not, ◌&&◌, cond}
use mathlib.Core.List.{[], ◌∷◌}
use Prim.Native.Nat.{ℕ, suc, ◌*◌, ◌<◌}
use native.Mathlib.Omega.{arith}
use native.Mathlib.Nat.{mul_comm}
use borrow.Author.Tests.{le-leb}
use Rattle.std.specs.Prelude.{Ok}
use Rattle.tariff.specs.Refusals.{passed}
use Rattle.tariff.proofs.Checks.{first_passes, last-passes}
use Rattle.largest_remainders.specs.Ranks.{add_to}
use Rattle.largest_remainders.proofs.Counting.{add_to-cong, add_to-times, bit, count-is_sum}
use Rattle.date_rules.specs.Dates.{month_days_of, month_exists_of, date_exists, no_such_month}
use Rattle.date_rules.specs.OnPeak.{hoursADay, on_peak_day, on_peak_hours}
use Rattle.dates.specs.Date.{date_for, no_such_date}
use Rattle.date_hours.specs.MonthHours.{month_hours_checks, month_hours_checked}
use Rattle.date_period.specs.HourPeriod.{within, no_such_hour, hour_period_checks, hour_period_checked, period_is}
use Rattle.date_calls.specs.MonthByHours.{hours_of_day, sum_of_hours}

-- no check refuses a month that exists, nor an hour of it
pub month_taken : (y m : ℕ) → month_exists_of y m ≡ true → month_hours_checked y m ≡ passed
unfolding month_hours_checks
month_taken y m e = last-passes (no_such_month y m) (ap not e)

module _ (y m j k : ℕ) (there : month_exists_of y m ≡ true) (a : j < month_days_of y m) (b : k < hours_of_day) where
  date_there : date_exists y m (suc j) ≡ true
  unfolding date_exists
  date_there = rw (there, le-leb 1 (suc j) (omega arith), le-leb (suc j) (month_days_of y m) (omega arith))

  hour_there : within 1 25 (suc k) ≡ true
  unfolding within
  hour_there = rw (le-leb 1 (suc k) (omega arith), le-leb (suc k) 25 (omega arith))

  pub hour_taken : hour_period_checked (date_for y m (suc j)) (suc k) ≡ passed
  unfolding hour_period_checks
  hour_taken = first_passes (no_such_date (date_for y m (suc j))) (no_such_hour (suc k) ∷ []) (ap not date_there) ∙ last-passes (no_such_hour (suc k)) (ap not hour_there)

-- the hours of one day
day_hours : (b : Bool) → add_to hours_of_day (λ k. cond (within 7 22 (suc k) && b) 1 0) ≡ bit b * hoursADay
unfolding add_to within
day_hours true = refl
day_hours false = refl

-- the periods of a month's hours add up to its on-peak hours
pub month_sum : (y m : ℕ) → sum_of_hours y m (λ d h. period_is (date_for y m d) h) ≡ on_peak_hours y m
unfolding on_peak_hours period_is
month_sum y m =
    add_to-cong (month_days_of y m) (λ j h. day_hours (on_peak_day y m (suc j)))
    ∙ add_to-times (month_days_of y m) (λ j. bit (on_peak_day y m (suc j))) hoursADay
    ∙ mul_comm _ _
    ∙ ap (λ (n : ℕ). hoursADay * n) (sym (count-is_sum (month_days_of y m) (λ j. on_peak_day y m (suc j))))

-- figures that are the periods, hour by hour, add up to the same
pub sum_alike : (y m : ℕ) (f : ℕ → ℕ → ℕ) → ((j k : ℕ) → j < month_days_of y m → k < hours_of_day → f (suc j) (suc k) ≡ period_is (date_for y m (suc j)) (suc k))
    → on_peak_hours y m ≡ sum_of_hours y m f
sum_alike y m f h = sym (add_to-cong (month_days_of y m) (λ j a. add_to-cong hours_of_day (λ k b. h j k a b)) ∙ month_sum y m)
