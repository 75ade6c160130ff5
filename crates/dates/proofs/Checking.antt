-- The checks of the date given and of the date reached: there is such a date, or 19.
use mathlib.Core.Path.{◌≡◌, sym, ap, ◌∙◌}
use mathlib.Core.Bool.{Bool, true, false, not}
use mathlib.Core.List.{[], ◌∷◌}
use Prim.Native.Nat.{ℕ}
use Rattle.tariff.specs.declared.refusals.Refusal.TheVariants.{NoSuchDate}
use Rattle.std.specs.Prelude.{Err}
use Rattle.tariff.specs.Refusals.{passed}
use Rattle.tariff.proofs.Checks.{first-refuses, first_passes, last-passes}
use Rattle.dates.specs.declared.Date.{Date}
use Rattle.date_rules.specs.Dates.{month_days_of, date_exists}
use Rattle.dates.specs.Date.{no_such_date}
use Rattle.dates.specs.Weekday.{weekday_checks, weekday_checked}
use Rattle.dates.specs.MonthLater.{cut_to, later_year, later_month, later_day, month_later_of, month_later_checks, month_later_checked}

abbrev pub there : Date → Bool
there date = date_exists date.year date.month date.day

-- b is what the code found of the date
module _ (date : Date) (b : Bool) (found : b ≡ there date) where
  pub weekday_refused : not b ≡ true → Err NoSuchDate ≡ weekday_checked date
  unfolding weekday_checks
  weekday_refused h = sym (first-refuses (no_such_date date) [] (sym (ap not found) ∙ h))

  pub weekday_passed : not b ≡ false → passed ≡ weekday_checked date
  unfolding weekday_checks
  weekday_passed h = sym (last-passes (no_such_date date) (sym (ap not found) ∙ h))

  pub given-refused : not b ≡ true → Err NoSuchDate ≡ month_later_checked date
  unfolding month_later_checks
  given-refused h = sym (first-refuses (no_such_date date) (no_such_date (month_later_of date) ∷ []) (sym (ap not found) ∙ h))

  -- and of the date reached
  module _ (h : not b ≡ false) (e : Bool) (reached : e ≡ there (month_later_of date)) where
    pub reached-refused : not e ≡ true → Err NoSuchDate ≡ month_later_checked date
    unfolding month_later_checks
    reached-refused k =
        sym (first_passes (no_such_date date) (no_such_date (month_later_of date) ∷ []) (sym (ap not found) ∙ h) ∙ first-refuses (no_such_date (month_later_of date)) []
        (sym (ap not reached) ∙ k))

    pub reached-passed : not e ≡ false → passed ≡ month_later_checked date
    unfolding month_later_checks
    reached-passed k =
        sym (first_passes (no_such_date date) (no_such_date (month_later_of date) ∷ []) (sym (ap not found) ∙ h) ∙ last-passes (no_such_date (month_later_of date))
        (sym (ap not reached) ∙ k))

-- the day reached, where `last` is the month's last
pub day_reached : (date : Date) (n last : ℕ) → last ≡ month_days_of (later_year date) (later_month date) → n ≡ cut_to last date.day → n ≡ later_day date
day_reached date n last e f = f ∙ ap (λ (k : ℕ). cut_to k date.day) e
