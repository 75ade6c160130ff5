-- THE THEOREM of the month step, of an existing date before December 2037.
use mathlib.Core.Path.{◌≡◌, refl}
use mathlib.Core.Bool.{Bool, true, false, cond}
use Prim.Native.Nat.{ℕ, ◌+◌, ◌*◌, ◌≤◌, ◌<◌}
use native.Mathlib.Omega.{arith}
use borrow.Author.Tests.{le-leb, leb-true}
use lib.Dec.{leb}
use Rattle.date_rules.specs.Dates.{month_days_of, last_year, date_exists}
use Rattle.date_rules.proofs.Months.{MonthIn, month_of, date_in}
use Rattle.date_laws.proofs.Theorems.{month_long}
use Rattle.dates.specs.declared.Date.{Date}
use Rattle.dates.specs.MonthLater.{cut_to, later_year, later_month, later_day}
use Rattle.dates.specs.Theorems.{Stepped}

date_of : (y m d : ℕ) → MonthIn y m → 1 ≤ d → d ≤ month_days_of y m → date_exists y m d ≡ true
unfolding date_exists
date_of y m d i a b = rw (month_of y m i, le-leb 1 d a, le-leb d (month_days_of y m) b)

cut : (last day : ℕ) → 1 ≤ last → 1 ≤ day → (1 ≤ cut_to last day) × (cut_to last day ≤ last)
cut last day a b = by (leb day last) refl
  where
    by : (t : Bool) → leb day last ≡ t → (1 ≤ cond t day last) × (cond t day last ≤ last)
    by true e = (b, leb-true day last e)
    by false e = (a, omega arith)

pub month_step : (date : Date) → date_exists date.year date.month date.day ≡ true → date.year * 12 + date.month < last_year * 12 + 12 → Stepped date
month_step date e h =
    let i = date_in date.year date.month date.day e in
    let j = i.month_there in
    let k : MonthIn (later_year date) (later_month date) =
    record { year_low = omega (arith, j); year_high = omega (arith, j); month_low = omega arith; month_high = omega arith } in
    let last = month_days_of (later_year date) (later_month date) in
    let b = cut last date.day (omega (arith, month_long (later_year date) (later_month date) (month_of _ _ k))) i.day_low in
    record {
      exists = date_of (later_year date) (later_month date) (later_day date) k b.0 b.1;
      in_the_following_month = omega (arith, j);
      keeps_the_day = λ l. rw (le-leb date.day last l);
    }
