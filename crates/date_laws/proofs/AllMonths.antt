-- A law of every month of the table, from a test at all of them that antt computes.
use mathlib.Core.Path.{◌≡◌}
use mathlib.Core.Bool.{Bool}
use Prim.Native.Nat.{ℕ, ◌+◌, ◌-◌, ◌*◌, ◌/◌, ◌%◌}
use native.Mathlib.Omega.{arith}
use lib.Dec.{T}
use Rattle.date_rules.specs.Dates.{first_year}
use Rattle.date_rules.specs.OnPeak.{table_entries}
use Rattle.date_rules.proofs.Months.{all_below, below, MonthIn}

abbrev year_at : ℕ → ℕ
year_at k = first_year + k / 12

abbrev month_at : ℕ → ℕ
month_at k = 1 + k % 12

pub all-months : (f : ℕ → ℕ → Bool) → T (all_below table_entries (λ k. f (year_at k) (month_at k))) → (y m : ℕ) → MonthIn y m → T (f y m)
all-months f t y m i =
    let k = (y - first_year) * 12 + (m - 1) in
    let a : year_at k ≡ y = omega arith in
    let b : month_at k ≡ m = omega arith in
    let h : T (f (year_at k) (month_at k)) = below table_entries (λ k. f (year_at k) (month_at k)) t k (omega arith) in
    rw (a, b) at h
