-- `crr_month_hours`.
use mathlib.Core.Path.{◌≡◌, refl, ◌∙◌}
use Prim.Native.Nat.{ℕ}
use Rattle.std.specs.Prelude.{Ok, Err}
use Rattle.tariff.specs.Refusals.{number_in, found_or, cell_after, number_after}
use Rattle.tariff.proofs.Answers.{refused_answers, refused_keeps, given-answers, given-count}
use Rattle.date_rules.specs.OnPeak.{on_peak_hours}
use Rattle.date_hours.specs.MonthHours.{HoursAnswer, TellsHours, month_hours_checked}
use Rattle.c_dates.proofs.crr_month_hours.Goals as goal

module _ (y m : ℕ) where
  number-told : (answer : HoursAnswer) → TellsHours y m answer → number_in answer ≡ number_after (month_hours_checked y m)
  number-told (Ok n) told = given-answers (month_hours_checked y m) _ _ told.hours_given
  number-told (Err r) told = refused_answers (month_hours_checked y m) _ r told.hours_given refl

  cell_told : (answer : HoursAnswer) (entry : ℕ) → TellsHours y m answer → found_or answer entry ≡ cell_after (month_hours_checked y m) (on_peak_hours y m) entry
  cell_told (Ok n) entry told = given-count (month_hours_checked y m) _ _ told.hours_given 0 entry
  cell_told (Err r) entry told = refused_keeps (month_hours_checked y m) _ r told.hours_given (on_peak_hours y m) entry

pub returns : goal.returns
returns c =
    let a = c.args in
    let told = c.month_hours.ensures in
    record {
      refusal-number = c.answer_cell.ensures.number ∙ number-told a.year a.month c.month_hours.result told;
      hours_given = c.answer_cell.ensures.cell ∙ cell_told a.year a.month c.month_hours.result a.hours.now told;
    }
