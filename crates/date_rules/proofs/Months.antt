-- Laws of tables of numbers, of the months' tables, and of months and dates that exist.
use mathlib.Core.Path.{◌≡◌, refl}
use mathlib.Core.Bool.{Bool, true, false, ◌&&◌, cond}
use mathlib.Core.List.{List, [], ◌∷◌}
use Prim.Native.Nat.{ℕ, zero, suc, ◌+◌, ◌<◌, ◌≤◌}
use native.Mathlib.Omega.{arith}
use borrow.Author.Tests.{eqb-true, eqb-false, leb-true, le-leb}
use lib.Dec.{T, leb, eqb, eqb→eq, leb→le}
use lib.ListN.{get_or}
use Rattle.date_rules.specs.Dates.{leap, month_length_of, length_before_of, month_days_of, month_exists_of, date_exists}
use Rattle.lists.proofs.Search.{both}

-- ---- a test at each k below n, which antt computes

abbrev pub all_below : ℕ → (ℕ → Bool) → Bool
all_below zero f = true
all_below (suc n) f = all_below n f && f n

and_left : (a b : Bool) → T (a && b) → T a
and_left true b t = tt
and_left false b t = t

and_right : (a b : Bool) → T (a && b) → T b
and_right true b t = t
and_right false b t = absurd t

pub below : (n : ℕ) (f : ℕ → Bool) → T (all_below n f) → (k : ℕ) → k < n → T (f k)
below zero f t k h = absurd (omega arith)
below (suc n) f t k h = by (eqb k n) refl (below n f (and_left (all_below n f) (f n) t) k)
  where
    by : (b : Bool) → eqb k n ≡ b → (k < n → T (f k)) → T (f k)
    by true e rest = rw (eqb-true k n e) (and_right (all_below n f) (f n) t)
    by false e rest = rest (omega (arith, eqb-false))

-- ---- the months' tables

abbrev right : (ℕ → ℕ) → (ℕ → ℕ) → ℕ → ℕ → Bool
right g f most k = eqb (g k) (f k) && leb (g k) most

-- g is f at every month, with no number above `most`
all_right : (g f : ℕ → ℕ) (most : ℕ) → T (all_below 13 (right g f most)) → (m : ℕ) → m ≤ 12 → (g m ≡ f m) × (g m ≤ most)
all_right g f most t m h =
    let b : T (right g f most m) = below 13 (right g f most) t m (omega arith) in
    (eqb→eq (g m) (f m) (and_left (eqb (g m) (f m)) (leb (g m) most) b), leb→le (g m) most (and_right (eqb (g m) (f m)) (leb (g m) most) b))

abbrev pub days : List ℕ
days = 0 ∷ 31 ∷ 28 ∷ 31 ∷ 30 ∷ 31 ∷ 30 ∷ 31 ∷ 31 ∷ 30 ∷ 31 ∷ 30 ∷ 31 ∷ []

abbrev pub days_before : List ℕ
days_before = 0 ∷ 0 ∷ 31 ∷ 59 ∷ 90 ∷ 120 ∷ 151 ∷ 181 ∷ 212 ∷ 243 ∷ 273 ∷ 304 ∷ 334 ∷ []

-- as the code finds them
abbrev pub length_found : Bool → ℕ → ℕ
length_found b m = cond (eqb m 2) (cond b 29 28) (get_or days m 0)

abbrev pub before_found : Bool → ℕ → ℕ
before_found b m = cond (leb m 2) (get_or days_before m 0) (cond b (get_or days_before m 0 + 1) (get_or days_before m 0))

pub length-right : (b : Bool) (m : ℕ) → m ≤ 12 → (length_found b m ≡ month_length_of b m) × (length_found b m ≤ 31)
unfolding month_length_of
length-right true = all_right (length_found true) (month_length_of true) 31 tt
length-right false = all_right (length_found false) (month_length_of false) 31 tt

pub before-right : (b : Bool) (m : ℕ) → m ≤ 12 → (before_found b m ≡ length_before_of b m) × (before_found b m ≤ 335)
unfolding month_length_of length_before_of
before-right true = all_right (before_found true) (length_before_of true) 335 tt
before-right false = all_right (before_found false) (length_before_of false) 335 tt

-- no month is longer than 31 days
length-small : (b : Bool) (m : ℕ) → m ≤ 12 → month_length_of b m ≤ 31
length-small b m h = omega (arith, length-right b m h)

-- ---- months and dates that exist

pub record MonthIn (y m : ℕ) : Type 0 where
  pub year_low : 2010 ≤ y
  pub year_high : y ≤ 2037
  pub month_low : 1 ≤ m
  pub month_high : m ≤ 12

pub month_in : (y m : ℕ) → month_exists_of y m ≡ true → MonthIn y m
unfolding month_exists_of
month_in y m e =
    let a = both (leb 2010 y && leb y 2037 && leb 1 m) (leb m 12) e in
    let b = both (leb 2010 y && leb y 2037) (leb 1 m) a.0 in
    let d = both (leb 2010 y) (leb y 2037) b.0 in
    record { year_low = leb-true 2010 y d.0; year_high = leb-true y 2037 d.1; month_low = leb-true 1 m b.1; month_high = leb-true m 12 a.1 }

pub month_of : (y m : ℕ) → MonthIn y m → month_exists_of y m ≡ true
unfolding month_exists_of
month_of y m i = rw (le-leb 2010 y i.year_low, le-leb y 2037 i.year_high, le-leb 1 m i.month_low, le-leb m 12 i.month_high)

pub record DateIn (y m d : ℕ) : Type 0 where
  pub month_there : MonthIn y m
  pub day_low : 1 ≤ d
  pub day_high : d ≤ 31

pub date_in : (y m d : ℕ) → date_exists y m d ≡ true → DateIn y m d
unfolding date_exists
date_in y m d e =
    let a = both (month_exists_of y m && leb 1 d) (leb d (month_days_of y m)) e in
    let b = both (month_exists_of y m) (leb 1 d) a.0 in
    let there = month_in y m b.0 in
    record { month_there = there; day_low = leb-true 1 d b.1; day_high = omega (arith, length-small (leap y) m there.month_high, leb-true d (month_days_of y m) a.1) }
