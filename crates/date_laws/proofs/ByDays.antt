-- The days of the month between which the code looks are those of the first, the fourth and the last weekday, at every month of the table.
use mathlib.Core.Path.{◌≡◌, refl}
use mathlib.Core.Bool.{Bool, true, false, not, ◌&&◌}
use Prim.Native.Nat.{ℕ, suc, ◌-◌, ◌≤◌}
use native.Mathlib.Omega.{arith}
use borrow.Author.Tests.{leb-true}
use lib.Dec.{T, eqb, leb, eqb→eq}
use Rattle.lists.specs.Sets.{count_of}
use Rattle.lists.proofs.Search.{both}
use Rattle.date_rules.specs.Dates.{leap, month_length_of, length_before_of, month_days_of, day_number_of, weekday_of, month_exists_of, date_exists}
use Rattle.date_rules.specs.OnPeak.{weekdays_to, nth, last, holiday, observed, on_peak_day, on_peak_hours}
use Rattle.date_rules.specs.Inner.{between, holiday_by_days, observed_by_days, on_peak_by_days_of, hours_by_days_of}
use Rattle.date_rules.proofs.Months.{all_below, below, month_in}
use Rattle.date_laws.proofs.AllMonths.{all-months}

abbrev same : Bool → Bool → Bool
same true b = b
same false b = not b

same_is : (a b : Bool) → T (same a b) → a ≡ b
same_is true true t = refl
same_is true false t = absurd t
same_is false true t = absurd t
same_is false false t = refl

abbrev days_same : ℕ → ℕ → Bool
days_same y m = all_below (suc (month_days_of y m)) (λ d. same (holiday y m d) (holiday_by_days y m d))

-- THE LAW of the ranges: of every day, and of day 0, the one before a Monday that is day 1
pub holidays_by_days : (y m d : ℕ) → month_exists_of y m ≡ true → d ≤ month_days_of y m → holiday y m d ≡ holiday_by_days y m d
unfolding count_of leap month_length_of length_before_of day_number_of weekday_of weekdays_to nth last holiday between holiday_by_days
holidays_by_days y m d e h =
    same_is (holiday y m d) (holiday_by_days y m d)
    (below (suc (month_days_of y m)) (λ d. same (holiday y m d) (holiday_by_days y m d)) (all-months days_same tt y m (month_in y m e)) d (omega arith))

-- so the days that the code takes for on-peak ones are the rule's
pub on_peak_by_days : (y m d : ℕ) → date_exists y m d ≡ true → on_peak_by_days_of y m d ≡ on_peak_day y m d
unfolding date_exists observed on_peak_day observed_by_days on_peak_by_days_of
on_peak_by_days y m d e =
    let a = both (month_exists_of y m && leb 1 d) (leb d (month_days_of y m)) e in
    let there = (both (month_exists_of y m) (leb 1 d) a.0).0 in
    let h = leb-true d (month_days_of y m) a.1 in
    rw (holidays_by_days y m d there h, holidays_by_days y m (d - 1) there (omega arith))

pub hours_by_days : (y m : ℕ) → month_exists_of y m ≡ true → hours_by_days_of y m ≡ on_peak_hours y m
unfolding count_of leap month_length_of length_before_of day_number_of weekday_of weekdays_to nth last holiday observed on_peak_day on_peak_hours between holiday_by_days observed_by_days on_peak_by_days_of hours_by_days_of
hours_by_days y m e = eqb→eq (hours_by_days_of y m) (on_peak_hours y m) (all-months (λ y m. eqb (hours_by_days_of y m) (on_peak_hours y m)) tt y m (month_in y m e))
