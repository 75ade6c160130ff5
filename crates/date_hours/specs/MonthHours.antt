-- Document 02, paper 1: a month's on-peak hours. "The library carries a table of 336 counts, January 2010 to December 2037, right by that rule in every entry".
use Rattle.std.specs.Prelude.{◌≡◌, List, [], ◌∷◌, ℕ, pos, Ok, Err, Result}
use Rattle.lists.specs.Lent.{Lent, before, after}
use Rattle.tariff.specs.Refusals.{Checked}
use Rattle.tariff.specs.Refusals.{Check, first, Outcome, given, refused_by, answered, cell_after, number_after}
use Rattle.date_rules.specs.Dates.{no_such_month}
use Rattle.date_rules.specs.OnPeak.{on_peak_hours}
use Rattle.tariff.specs.declared.refusals.Refusal.{Refusal}

-- how many hours, or the refusal
abbrev pub HoursAnswer : Type 0
HoursAnswer = Result ℕ Refusal

abbrev pub hours_outcome : HoursAnswer → Outcome
hours_outcome (Ok hours) = given (pos hours ∷ [])
hours_outcome (Err r) = refused_by r

module _ (year month : ℕ) where
  -- "A .. month that doesn't exist, or lies outside those years, given .., draws 19, the only check there"
  unfoldable pub month_hours_checks : List Check
  month_hours_checks = no_such_month year month ∷ []

  abbrev pub month_hours_checked : Checked
  month_hours_checked = first month_hours_checks

  -- the promise
  pub record TellsHours (answer : HoursAnswer) : Type 0 where
    pub hours_given : hours_outcome answer ≡ answered month_hours_checked (pos (on_peak_hours year month) ∷ [])

  -- the same for C
  pub record TellsHoursForC (number : ℕ) (hours : Lent ℕ) : Type 0 where
    pub refusal-number : number ≡ number_after month_hours_checked
    pub hours_given : after hours ≡ cell_after month_hours_checked (on_peak_hours year month) (before hours)
