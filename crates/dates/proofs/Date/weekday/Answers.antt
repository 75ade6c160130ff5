-- `Date::weekday`: the check, then the weekday.
use mathlib.Core.Path.{refl, sym, ap, ◌∙◌}
use mathlib.Core.List.{[], ◌∷◌}
use Prim.Native.Nat.{ℕ}
use native.Mathlib.Omega.{arith}
use lib.IntN.{pos}
use mathlib.Core.Bool.{not}
use Rattle.tariff.specs.Refusals.{given}
use Rattle.tariff.proofs.Answers.{answer-refused, answer-passed}
use Rattle.date_rules.proofs.Months.{date_in}
use Rattle.dates.proofs.Checking.{weekday_refused, weekday_passed}
use Rattle.dates.proofs.Date.weekday.Goals as goal

pub returns-then-not-exists : goal.returns-then-not-exists
returns-then-not-exists c =
    let s = c in
    record { weekday_given = answer-refused _ _ (weekday_refused s.args.self s.exists.result s.exists.ensures (ap not c.if-not-exists.true)) _ refl _ }

pub invariant_of-month : goal.invariant_of-month
invariant_of-month c =
    let a = c.args.self in
    let i = date_in a.year a.month a.day (sym c.exists.ensures ∙ c.if-not-exists.false) in
    record { reached = (omega (arith, i.month_there), i.month_there.year_high, i.month_there.month_high) }

pub weekday-requires : goal.weekday-requires
weekday-requires c =
    let a = c.args.self in
    let i = date_in a.year a.month a.day (sym c.exists.ensures ∙ c.if-not-exists.false) in
    (i.day_low, i.day_high)

pub returns : goal.returns
returns c =
    let s = c in
    let passed = weekday_passed s.args.self s.exists.result s.exists.ensures (ap not c.if-not-exists.false) in
    record { weekday_given = ap (λ (n : ℕ). given (pos n ∷ [])) c.weekday.ensures ∙ answer-passed _ _ passed refl _ }
