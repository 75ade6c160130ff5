-- Laws of the on-peak rule: a case of the code each, over plain variables.
use mathlib.Core.Path.{◌≡◌, refl}
use mathlib.Core.Bool.{Bool, true, false, or-false}
use Prim.Native.Nat.{ℕ, suc, ◌+◌, ◌-◌, ◌*◌}
use native.Mathlib.Omega.{arith}
use native.Mathlib.Numerals.{add-one}
use borrow.Author.Tests.{eq-eqb, ne_eqb}
use lib.Dec.{eqb}
use Rattle.lists.specs.Sets.{count_of}
use Rattle.date_rules.specs.Dates.{month_days_of, weekday_of}
use Rattle.date_rules.specs.OnPeak.{hoursADay}
use Rattle.date_rules.specs.Inner.{last_days, first_days, fourth_days, holiday_by_days, observed_by_days, on_peak_by_days_of, hours_by_days_of}

module _ (y m d : ℕ) where
  -- ---- the six holidays

  pub january : m ≡ 1 → eqb d 1 ≡ holiday_by_days y m d
  unfolding holiday_by_days
  january e = rw e (simp or-false)

  pub may : m ≡ 5 → last_days y m d ≡ holiday_by_days y m d
  unfolding holiday_by_days
  may e = rw e (simp or-false)

  pub july : m ≡ 7 → eqb d 4 ≡ holiday_by_days y m d
  unfolding holiday_by_days
  july e = rw e (simp or-false)

  pub september : m ≡ 9 → first_days y m d ≡ holiday_by_days y m d
  unfolding holiday_by_days
  september e = rw e (simp or-false)

  pub november : m ≡ 11 → fourth_days y m d ≡ holiday_by_days y m d
  unfolding holiday_by_days
  november e = rw e (simp or-false)

  pub december : m ≡ 12 → eqb d 25 ≡ holiday_by_days y m d
  unfolding holiday_by_days
  december e = rw e

  pub none : (m ≡ 1 → ⊥) → (m ≡ 5 → ⊥) → (m ≡ 7 → ⊥) → (m ≡ 9 → ⊥) → (m ≡ 11 → ⊥) → (m ≡ 12 → ⊥) → false ≡ holiday_by_days y m d
  unfolding holiday_by_days
  none a b e f g h = simp (ne_eqb m 1 a, ne_eqb m 5 b, ne_eqb m 7 e, ne_eqb m 9 f, ne_eqb m 11 g, ne_eqb m 12 h)

  -- ---- on-peak days

  pub sunday : weekday_of y m d ≡ 7 → false ≡ on_peak_by_days_of y m d
  unfolding on_peak_by_days_of
  sunday e = rw (eq-eqb (weekday_of y m d) 7 e)

  pub on_holiday : (weekday_of y m d ≡ 7 → ⊥) → holiday_by_days y m d ≡ true → false ≡ on_peak_by_days_of y m d
  unfolding on_peak_by_days_of observed_by_days
  on_holiday n e = rw (ne_eqb (weekday_of y m d) 7 n, e)

  pub moved : weekday_of y m d ≡ 1 → holiday_by_days y m d ≡ false → holiday_by_days y m (d - 1) ≡ true → false ≡ on_peak_by_days_of y m d
  unfolding on_peak_by_days_of observed_by_days
  moved w e f = rw (w, e, f)

  pub free_monday : weekday_of y m d ≡ 1 → holiday_by_days y m d ≡ false → holiday_by_days y m (d - 1) ≡ false → true ≡ on_peak_by_days_of y m d
  unfolding on_peak_by_days_of observed_by_days
  free_monday w e f = rw (w, e, f)

  pub free_day : (weekday_of y m d ≡ 7 → ⊥) → (weekday_of y m d ≡ 1 → ⊥) → holiday_by_days y m d ≡ false → true ≡ on_peak_by_days_of y m d
  unfolding on_peak_by_days_of observed_by_days
  free_day n k e = rw (ne_eqb (weekday_of y m d) 7 n, ne_eqb (weekday_of y m d) 1 k, e)

-- ---- counting: one day more

pub count_none : (f : ℕ → Bool) → 0 ≡ count_of 0 f
unfolding count_of
count_none f = refl

module _ (y m i n : ℕ) (e : n ≡ count_of i (λ k. on_peak_by_days_of y m (suc k))) where
  pub count-on : on_peak_by_days_of y m (i + 1) ≡ true → n + 1 ≡ count_of (i + 1) (λ k. on_peak_by_days_of y m (suc k))
  unfolding count_of
  count-on t = let s : on_peak_by_days_of y m (suc i) ≡ true = rw add-one at t in rw (add-one i, s, e)

  pub count-off : on_peak_by_days_of y m (i + 1) ≡ false → n ≡ count_of (i + 1) (λ k. on_peak_by_days_of y m (suc k))
  unfolding count_of
  count-off t = let s : on_peak_by_days_of y m (suc i) ≡ false = rw add-one at t in rw (add-one i, s, e) (omega arith)

  -- all days of the month
  pub count-done : i ≡ month_days_of y m → hoursADay * n ≡ hours_by_days_of y m
  unfolding hours_by_days_of
  count-done h = rw (e, h)
