-- THE THEOREM over what `hour_period`, `month_hours` and their C functions promise; the statement is in specs/.
use mathlib.Core.Path.{◌≡◌, ap, ◌∙◌}
use mathlib.Core.Bool.{true}
use mathlib.Core.List.{List, [], ◌∷◌}
use Prim.Native.Nat.{ℕ, suc}
use lib.ListN.{get_or}
use lib.IntN.{ℤ, pos, nat_abs}
use Rattle.lists.specs.Lent.{Lent, after}
use Rattle.tariff.specs.Refusals.{Checked, passed}
use Rattle.std.specs.Prelude.{Ok, Err}
use Rattle.tariff.specs.Refusals.{given, answered, number_after}
use Rattle.tariff.proofs.Answers.{given-told, some_refuses, figure-is}
use Rattle.date_rules.specs.Dates.{month_exists_of}
use Rattle.date_rules.specs.OnPeak.{on_peak_hours}
use Rattle.dates.specs.Date.{date_for}
use Rattle.date_hours.specs.MonthHours.{HoursAnswer}
use Rattle.date_hours.specs.MonthHours.{hours_outcome}
use Rattle.date_period.specs.HourPeriod.{PeriodAnswer, period_number}
use Rattle.date_period.specs.HourPeriod.{period_outcome, TellsPeriod, TellsPeriodForC}
use Rattle.date_calls.specs.MonthByHours.{MonthByHours, EachHour, period_in, sum_of_hours}
use Rattle.date_calls.proofs.Hours.{month_taken, hour_taken, sum_alike}

-- one figure given is the one that the checks let through
one_figure : (checked : Checked) → checked ≡ passed → (n v : ℕ) → given (pos n ∷ []) ≡ answered checked (pos v ∷ []) → n ≡ v
one_figure checked ok n v told = ap (λ (xs : List ℤ). nat_abs (get_or xs 0 (pos 0))) (given-told checked (pos v ∷ []) (pos n ∷ []) told).1

period-of : (answer : PeriodAnswer) (checked : Checked) → checked ≡ passed → (v : ℕ) → period_outcome answer ≡ answered checked (pos v ∷ []) → period_in answer ≡ v
period-of (Ok period) checked ok v told = one_figure checked ok (period_number period) v told
period-of (Err r) checked ok v told = absurd (some_refuses checked (pos v ∷ []) r told ok)

hours_of : (answer : HoursAnswer) (checked : Checked) → checked ≡ passed → (v : ℕ) → hours_outcome answer ≡ answered checked (pos v ∷ []) → answer ≡ Ok v
hours_of (Ok n) checked ok v told = ap Ok (one_figure checked ok n v told)
hours_of (Err r) checked ok v told = absurd (some_refuses checked (pos v ∷ []) r told ok)

module _ (y m : ℕ) (there : month_exists_of y m ≡ true) where
  periods_are : (periods : ℕ → ℕ → PeriodAnswer) → EachHour y m (λ d h. TellsPeriod (date_for y m d) h (periods d h))
      → on_peak_hours y m ≡ sum_of_hours y m (λ d h. period_in (periods d h))
  periods_are periods each =
      sum_alike y m (λ d h. period_in (periods d h))
      (λ j k a b. period-of (periods (suc j) (suc k)) _ (hour_taken y m j k there a b) _ (each j k a b).period-given)

  cells_are : (number : ℕ → ℕ → ℕ) (period : ℕ → ℕ → Lent ℕ) → EachHour y m (λ d h. TellsPeriodForC (date_for y m d) h (number d h) (period d h))
      → on_peak_hours y m ≡ sum_of_hours y m (λ d h. after (period d h))
  cells_are number period each = sum_alike y m (λ d h. after (period d h)) (λ j k a b. figure-is _ (hour_taken y m j k there a b) _ _ _ (each j k a b).period-given)

pub month_by_hours : MonthByHours
month_by_hours = record {
  month_by_hours = λ y m there periods each answer told.
      hours_of answer _ (month_taken y m there) _ told.hours_given ∙ ap Ok (periods_are y m there periods each);
  crr_month_by_hours = λ y m there number period each refusal hours told.
      (told.refusal-number ∙ ap number_after (month_taken y m there), figure-is _ (month_taken y m there) _ _ _ told.hours_given ∙ cells_are y m there number period each);
}
