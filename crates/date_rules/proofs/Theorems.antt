-- THE THEOREMS of the calendar, over its definitions: 001's exhibit A-1, weekdays follow each other.
use mathlib.Core.Path.{◌≡◌, refl}
use mathlib.Core.List.{[], ◌∷◌}
use Prim.Native.Nat.{ℕ, ◌+◌, ◌/◌, ◌%◌, ◌≤◌}
use native.Mathlib.Omega.{arith}
use Rattle.lists.specs.Lists.{list_to}
use Rattle.lists.specs.Sets.{count_of}
use Rattle.date_rules.specs.Dates.{leap, month_length_of, length_before_of, day_number_of, weekday_of}
use Rattle.date_rules.specs.OnPeak.{weekdays_to, nth, last, holiday}
use Rattle.date_rules.specs.Theorems.{days_with, holidays_in, next_weekday}

-- ---- the holidays of 001's exhibit A-1, 1 February 2008 to 31 January 2009

-- "5/26/2008 .. 7/4/2008 .. 9/1/2008 .. 11/27/2008 .. 12/25/2008 .. 1/1/2009", month by month from February
pub exhibit_a_1 : list_to 12 (λ k. holidays_in (2008 + (k + 1) / 12) ((k + 1) % 12 + 1))
    ≡ [] ∷ [] ∷ [] ∷ (26 ∷ []) ∷ [] ∷ (4 ∷ []) ∷ [] ∷ (1 ∷ []) ∷ [] ∷ (27 ∷ []) ∷ (25 ∷ []) ∷ (1 ∷ []) ∷ []
unfolding list_to count_of days_with leap month_length_of length_before_of day_number_of weekday_of weekdays_to nth last holiday
exhibit_a_1 = refl

-- ---- weekdays follow each other

-- within a month, of any year
pub next-day : (y m d : ℕ) → 1 ≤ d → weekday_of y m (d + 1) ≡ next_weekday (weekday_of y m d)
unfolding weekday_of day_number_of
next-day y m d h = omega arith

-- 1 January 2010 is a Friday
pub first-day : weekday_of 2010 1 1 ≡ 5
unfolding leap month_length_of length_before_of day_number_of weekday_of
first-day = refl
