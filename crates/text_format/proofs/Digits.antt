-- Laws of decimal digits: which they are, and how many.
use mathlib.Core.Path.{◌≡◌, refl, sym, ap, ◌∙◌}
use mathlib.Core.Bool.{Bool, true, false, cond}
use mathlib.Core.List.{List, [], ◌∷◌, ◌++◌}
use Prim.Native.Nat.{ℕ, zero, suc, ◌+◌, ◌/◌, ◌%◌, ◌^◌, ◌≤◌, ◌<◌}
use native.Mathlib.Nat.{pow-suc, pow-succ', one-le-pow, div-one, div-div-eq-div-mul}
use native.Mathlib.Omega.{arith}
use borrow.Author.Tests.{lt-ltb, le-ltb, ltb-true, ltb-false}
use lib.Dec.{ltb}
use lib.IntN.{ℤ, pos, negsuc, nat_abs}
use lib.ListN.{length, length-append}
use lib.Signed.{lt_z}
use Rattle.text_format.specs.Decimal.{digits_in, decimal, decimal_z}

-- ---- which they are

module _ (d n : ℕ) where
  last-digit : n < 10 → digits_in (suc d) n ≡ (48 + n) ∷ []
  unfolding digits_in
  last-digit h = rw (lt-ltb n 10 h)

  more_digits : 10 ≤ n → digits_in (suc d) n ≡ digits_in d (n / 10) ++ (48 + n % 10) ∷ []
  unfolding digits_in
  more_digits h = rw (le-ltb n 10 h)

  -- one digit, or those of the tenth and one
  by_digits : (P : List ℕ → Type 0) → (n < 10 → P ((48 + n) ∷ [])) → (10 ≤ n → P (digits_in d (n / 10) ++ (48 + n % 10) ∷ [])) → P (digits_in (suc d) n)
  unfolding digits_in
  by_digits P one more = by (ltb n 10) refl
    where
      by : (b : Bool) → ltb n 10 ≡ b → P (cond b ((48 + n) ∷ []) (digits_in d (n / 10) ++ (48 + n % 10) ∷ []))
      by true e = one (ltb-true n 10 e)
      by false e = more (ltb-false n 10 e)

-- a tenth, and a tenth of the bound
tenth : (p n : ℕ) → n < 10 ^ suc p → n / 10 < 10 ^ p
tenth p n h = omega (arith, rw pow-suc at h)

-- digits beyond those that a number has change nothing
more_room : (d n : ℕ) → n < 10 ^ suc d → digits_in (suc (suc d)) n ≡ digits_in (suc d) n
more_room zero n h = last-digit 1 n h ∙ sym (last-digit 0 n h)
more_room (suc d) n h =
    by_digits (suc (suc d)) n (λ l. l ≡ digits_in (suc (suc d)) n) (λ s. sym (last-digit (suc d) n s))
    (λ l. rw (more_digits (suc d) n l, more_room d (n / 10) (tenth (suc d) n h)))

pub one_digit : (n : ℕ) → n < 10 → decimal n ≡ (48 + n) ∷ []
unfolding decimal
one_digit = last-digit 19

pub next-digit : (n : ℕ) → n < 2 ^ 64 → 10 ≤ n → decimal n ≡ decimal (n / 10) ++ (48 + n % 10) ∷ []
unfolding decimal
next-digit n fits h = rw (more_digits 19 n h, more_room 18 (n / 10) (omega arith))

-- ---- how many

length_digits : (d n : ℕ) → length (digits_in d n) ≤ d
unfolding digits_in
length_digits zero n = omega arith
length_digits (suc d) n = by_digits d n (λ l. length l ≤ suc d) (λ s. omega arith) (λ l. rw length-append (omega (arith, length_digits d (n / 10))))

pub length-decimal : (n : ℕ) → length (decimal n) ≤ 20
unfolding decimal
length-decimal n = length_digits 20 n

-- at least one
pub some_decimal : (n : ℕ) → 1 ≤ length (decimal n)
unfolding decimal
some_decimal n = by_digits 19 n (λ l. 1 ≤ length l) (λ s. omega arith) (λ l. rw length-append (omega arith))

-- a number below 10^d has at most d
digits-below : (f d n : ℕ) → n < 10 ^ suc d → length (digits_in f n) ≤ suc d
unfolding digits_in
digits-below zero d n h = omega arith
digits-below (suc f) zero n h = rw (last-digit f n h) (omega arith)
digits-below (suc f) (suc d) n h =
    by_digits f n (λ l. length l ≤ suc (suc d)) (λ s. omega arith) (λ l. rw length-append (omega (arith, digits-below f d (n / 10) (tenth (suc d) n h))))

pub decimal-below : (d n : ℕ) → 1 ≤ d → n < 10 ^ d → length (decimal n) ≤ d
unfolding decimal
decimal-below zero n some h = absurd (omega arith)
decimal-below (suc d) n some h = digits-below 20 d n h

-- a number of two digits or more has one digit more than its tenth
pub length-next : (n : ℕ) → n < 2 ^ 64 → 10 ≤ n → length (decimal n) ≡ length (decimal (n / 10)) + 1
length-next n f h = ap length (next-digit n f h) ∙ length-append (decimal (n / 10)) ((48 + n % 10) ∷ [])

pub length-one : (n : ℕ) → n < 10 → length (decimal n) ≡ 1
length-one n h = ap length (one_digit n h)

-- the digits in front of the last k
pub length-past : (k n : ℕ) → n < 2 ^ 64 → 10 ^ k ≤ n → length (decimal n) ≡ length (decimal (n / 10 ^ k)) + k
length-past zero n f h = rw (div-one n) (omega arith)
length-past (suc k) n f h =
    let some = one-le-pow k 10 (omega arith) in
    let less = rw pow-suc at h in
    rw (pow-succ', ← div-div-eq-div-mul n 10 (10 ^ k)) (omega (arith, length-next n f (omega arith), length-past k (n / 10) (omega arith) (omega arith)))

-- ---- stored from the last on

-- what is left to store in the first k places, of a number that fills them
abbrev pub left : ℕ → ℕ → List ℕ
left zero n = []
left (suc k) n = decimal n

pub left_some : (k n : ℕ) → 1 ≤ k → left k n ≡ decimal n
left_some zero n some = absurd (omega arith)
left_some (suc k) n some = refl

-- ---- with a sign

pub decimal_z-below : (d : ℕ) (z : ℤ) → 1 ≤ d → nat_abs z < 10 ^ d → length (decimal_z z) ≤ suc d
unfolding decimal_z
decimal_z-below d (pos n) some h = omega (arith, decimal-below d n some h)
decimal_z-below d (negsuc n) some h = omega (arith, decimal-below d (suc n) some h)

pub length-decimal_z : (z : ℤ) → length (decimal_z z) ≤ 21
unfolding decimal_z
length-decimal_z (pos n) = omega (arith, length-decimal n)
length-decimal_z (negsuc n) = omega (arith, length-decimal (suc n))

pub text_negative : (z : ℤ) → lt_z z (pos 0) ≡ true → decimal_z z ≡ 45 ∷ decimal (nat_abs z)
unfolding decimal_z
text_negative (pos n) e = let no : n < 0 = ltb-true n 0 e in absurd (omega arith)
text_negative (negsuc n) e = refl

pub text_positive : (z : ℤ) → lt_z z (pos 0) ≡ false → decimal_z z ≡ decimal (nat_abs z)
unfolding decimal_z
text_positive (pos n) e = refl
text_positive (negsuc n) e = cc
