-- `Date::month_later`: the date given, then the date reached.
use mathlib.Core.Path.{◌≡◌, refl, sym, ap, ◌∙◌}
use Prim.Native.Nat.{ℕ}
use native.Mathlib.Omega.{arith}
use mathlib.Core.Bool.{Bool, not}
use Rattle.tariff.specs.Refusals.{given}
use Rattle.tariff.proofs.Answers.{answer-refused, answer-passed}
use Rattle.date_rules.specs.Dates.{date_exists}
use Rattle.dates.specs.declared.Date.{Date}
use Rattle.dates.specs.Date.{date_for}
use Rattle.dates.specs.MonthLater.{date_values, later_year, later_month, later_day, month_later_of}
use Rattle.date_rules.proofs.Months.{date_in}
use Rattle.dates.proofs.Checking.{there, day_reached, given-refused, reached-refused, reached-passed}
use Rattle.dates.proofs.Ranges.{min-cut}
use Rattle.dates.proofs.Date.month_later.Goals as goal

pub returns-then-not-exists : goal.returns-then-not-exists
returns-then-not-exists c =
    let s = c in
    record { date_given = answer-refused _ _ (given-refused s.args.self s.exists.result s.exists.ensures (ap not c.if-not-exists.true)) _ refl _ }

pub overflow_add-year : goal.overflow_add-year
overflow_add-year c =
    let s = c in
    let a = s.args.self in
    let i = date_in a.year a.month a.day (sym s.exists.ensures ∙ c.if-not-exists.false) in
    omega (arith, i.month_there)

-- it was asked whether there is the date reached, of which the code found the day n and the answer b
found_there : (a : Date) (n : ℕ) (b : Bool) → n ≡ later_day a → b ≡ date_exists (later_year a) (later_month a) n → b ≡ there (month_later_of a)
found_there a n b day e = e ∙ ap (date_exists (later_year a) (later_month a)) day

pub returns-then-not-exists-2 : goal.returns-then-not-exists-2
returns-then-not-exists-2 c =
    let a = c.args.self in
    let day = day_reached a c.min-day.result c.month_days.result c.month_days.ensures.0 (c.min-day.ensures ∙ min-cut c.month_days.result a.day) in
    let reached = found_there a c.min-day.result c.exists-2.result day c.exists-2.ensures in
    let refused = reached-refused a c.exists.result c.exists.ensures (ap not c.if-not-exists.false) c.exists-2.result reached (ap not c.if-not-exists-2.true) in
    record { date_given = answer-refused _ _ refused _ refl _ }

pub returns : goal.returns
returns c =
    let a = c.args.self in
    let day = day_reached a c.min-day.result c.month_days.result c.month_days.ensures.0 (c.min-day.ensures ∙ min-cut c.month_days.result a.day) in
    let reached = found_there a c.min-day.result c.exists-2.result day c.exists-2.ensures in
    let passed = reached-passed a c.exists.result c.exists.ensures (ap not c.if-not-exists.false) c.exists-2.result reached (ap not c.if-not-exists-2.false) in
    record { date_given = ap (λ (d : ℕ). given (date_values (date_for (later_year a) (later_month a) d))) day ∙ answer-passed _ _ passed refl _ }
