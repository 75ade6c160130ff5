-- `month_hours`: the check, then the cell.
use mathlib.Core.Path.{◌≡◌, refl, sym, ap, ◌∙◌}
use mathlib.Core.Bool.{true, false, not}
use mathlib.Core.List.{[], ◌∷◌}
use Prim.Native.Nat.{ℕ}
use native.Mathlib.Omega.{arith}
use lib.IntN.{pos}
use Rattle.tariff.specs.declared.refusals.Refusal.TheVariants.{NoSuchDate}
use Rattle.std.specs.Prelude.{Err}
use Rattle.tariff.specs.Refusals.{passed}
use Rattle.tariff.specs.Refusals.{given}
use Rattle.tariff.proofs.Answers.{answer-refused, answer-passed}
use Rattle.tariff.proofs.Checks.{first-refuses, last-passes}
use Rattle.date_rules.specs.Dates.{month_exists_of, no_such_month}
use Rattle.date_rules.proofs.Months.{MonthIn, month_in}
use Rattle.date_hours.specs.MonthHours.{month_hours_checks, month_hours_checked}
use Rattle.date_table.proofs.Theorems.{every_entry_right}
use Rattle.date_hours.proofs.month_hours.Goals as goal

missing : (y m : ℕ) → not (month_exists_of y m) ≡ true → Err NoSuchDate ≡ month_hours_checked y m
unfolding month_hours_checks
missing y m h = sym (first-refuses (no_such_month y m) [] h)

present : (y m : ℕ) → not (month_exists_of y m) ≡ false → passed ≡ month_hours_checked y m
unfolding month_hours_checks
present y m h = sym (last-passes (no_such_month y m) h)

-- the month exists where the code goes on
there : (c : goal.Else-not-month_exists) → let a = c.args in month_exists_of a.year a.month ≡ true
there c = sym c.month_exists.ensures ∙ c.if-not-month_exists.false

inside : (c : goal.Else-not-month_exists) → let a = c.args in MonthIn a.year a.month
inside c = let a = c.args in month_in a.year a.month (there c)

pub returns-then-not-month_exists : goal.returns-then-not-month_exists
returns-then-not-month_exists c =
    let s = c in
    let a = s.args in
    record { hours_given = answer-refused _ _ (missing a.year a.month (sym (ap not s.month_exists.ensures) ∙ ap not c.if-not-month_exists.true)) _ refl _ }

pub returns : goal.returns
returns c =
    let e = c in
    let a = e.args in
    let right = c.cell.ensures ∙ every_entry_right a.year a.month (sym c.month_exists.ensures ∙ c.if-not-month_exists.false) in
    let passed = present a.year a.month (sym (ap not e.month_exists.ensures) ∙ ap not c.if-not-month_exists.false) in
    record { hours_given = ap (λ (n : ℕ). given (pos n ∷ [])) right ∙ answer-passed _ _ passed refl _ }

pub overflow_sub-k : goal.overflow_sub-k
overflow_sub-k c = omega (arith, inside c)

pub overflow_mul-k : goal.overflow_mul-k
overflow_mul-k c = omega (arith, inside c)

pub overflow_sub-k-2 : goal.overflow_sub-k-2
overflow_sub-k-2 c = omega (arith, inside c)

pub overflow_add-k : goal.overflow_add-k
overflow_add-k c = omega (arith, inside c)

pub cell-requires : goal.cell-requires
cell-requires c = omega (arith, inside c)
