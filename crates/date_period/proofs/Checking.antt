-- The checks of the date and of the hour; a and b are what the code found of them.
use mathlib.Core.Path.{◌≡◌, sym, ap, ◌∙◌}
use mathlib.Core.Bool.{Bool, true, false, not}
use mathlib.Core.List.{[], ◌∷◌}
use Prim.Native.Nat.{ℕ}
use Rattle.tariff.specs.declared.refusals.Refusal.TheVariants.{NoSuchDate}
use Rattle.std.specs.Prelude.{Err}
use Rattle.tariff.specs.Refusals.{passed}
use Rattle.tariff.proofs.Checks.{first-refuses, first_passes, last-passes}
use Rattle.dates.specs.declared.Date.{Date}
use Rattle.date_rules.specs.Dates.{date_exists}
use Rattle.dates.specs.Date.{no_such_date}
use Rattle.date_period.specs.HourPeriod.{hour_exists, no_such_hour, hour_period_checks, hour_period_checked}

module _ (date : Date) (hour : ℕ) (a : Bool) (found : a ≡ date_exists date.year date.month date.day) where
  pub date_refused : not a ≡ true → Err NoSuchDate ≡ hour_period_checked date hour
  unfolding hour_period_checks
  date_refused h = sym (first-refuses (no_such_date date) (no_such_hour hour ∷ []) (sym (ap not found) ∙ h))

  module _ (h : not a ≡ false) (b : Bool) (in-the-day : b ≡ hour_exists hour) where
    pub hour_refused : not b ≡ true → Err NoSuchDate ≡ hour_period_checked date hour
    unfolding hour_period_checks
    hour_refused k =
        sym (first_passes (no_such_date date) (no_such_hour hour ∷ []) (sym (ap not found) ∙ h) ∙ first-refuses (no_such_hour hour) [] (sym (ap not in-the-day) ∙ k))

    pub both-passed : not b ≡ false → passed ≡ hour_period_checked date hour
    unfolding hour_period_checks
    both-passed k = sym (first_passes (no_such_date date) (no_such_hour hour ∷ []) (sym (ap not found) ∙ h) ∙ last-passes (no_such_hour hour) (sym (ap not in-the-day) ∙ k))
