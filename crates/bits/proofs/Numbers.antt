-- Laws of `number` and `digits`, each over the width.
use mathlib.Core.Path.{◌≡◌, refl, sym, ap, ◌∙◌}
use Prim.Native.Nat.{ℕ, zero, suc, ◌+◌, ◌-◌, ◌*◌, ◌/◌, ◌%◌, ◌^◌, ◌≤◌, ◌<◌}
use native.Mathlib.Nat.{zero-add, suc-add, add_comm, mul-zero, one-mul, mul-one, mul-suc, mul-add, mul-le-mul_left, lt_of_lt_of_le}
use native.Mathlib.Nat.{mod-one, mod-lt, mul-add-div_right, mul-add-mod_self_right, mod-eq_of_lt}
use native.Mathlib.Numerals.{add-one}
use native.Mathlib.Omega.{arith}
use mathlib.Core.List.{List, [], ◌∷◌, ◌++◌}
use lib.ListN.{length, get_or, take, drop, length-append, length-take}
use lib.Seq.{take-suc, get_or-drop}
use lib.Pow.{shl_exact, pow_mono, pow_pos, pow-add, shr-shr, high, mod-pow-add}
use lib.Arith.{digits_lt}
use Rattle.bits.specs.Bits.{number, digits}

-- each digit is one of w bits. Past the end `get_or` gives 0, so this is what a slice's rule gives of its bytes
abbrev pub Below : ℕ → List ℕ → Type 0
Below w ds = (i : ℕ) → get_or ds i 0 < 2 ^ w

-- what stands above the part does not count
pub part-high : (a r m e w : ℕ) → e + w ≤ m → (a * 2 ^ m + r) / 2 ^ e % 2 ^ w ≡ r / 2 ^ e % 2 ^ w
part-high a r m e w h =
    ap (λ (x : ℕ). x / 2 ^ e % 2 ^ w) up ∙ ap (λ (x : ℕ). x % 2 ^ w) (mul-add-div_right (pow_pos e) (a * 2 ^ (m - (e + w)) * 2 ^ w) r)
    ∙ mul-add-mod_self_right (a * 2 ^ (m - (e + w))) (2 ^ w) (r / 2 ^ e)
  where
    k : ℕ
    k = m - (e + w)

    pows : 2 ^ m ≡ 2 ^ k * 2 ^ w * 2 ^ e
    pows = ap (λ (x : ℕ). 2 ^ x) (omega arith) ∙ pow-add 2 (k + w) e ∙ ap (λ (x : ℕ). x * 2 ^ e) (pow-add 2 k w)

    up : a * 2 ^ m + r ≡ a * 2 ^ k * 2 ^ w * 2 ^ e + r
    up = rw pows (omega arith)

-- nor what stands below it
pub part_low : (a r k e w : ℕ) → r < 2 ^ k → (a * 2 ^ k + r) / 2 ^ (k + e) % 2 ^ w ≡ a / 2 ^ e % 2 ^ w
part_low a r k e w h = ap (λ (x : ℕ). x % 2 ^ w) (sym (shr-shr (a * 2 ^ k + r) k e) ∙ ap (λ (x : ℕ). x / 2 ^ e) (high a k h))

pub number_append : (w : ℕ) (xs ys : List ℕ) → number w (xs ++ ys) ≡ number w xs * 2 ^ (w * length ys) + number w ys
number_append w [] ys = omega arith
number_append w (x ∷ xs) ys = rw pows (omega (arith, number_append w xs ys))
  where
    pows : 2 ^ (w * length (xs ++ ys)) ≡ 2 ^ (w * length xs) * 2 ^ (w * length ys)
    pows = ap (λ (x : ℕ). 2 ^ (w * x)) (length-append xs ys) ∙ ap (λ (x : ℕ). 2 ^ x) (mul-add w (length xs) (length ys)) ∙ pow-add 2 (w * length xs) (w * length ys)

pub number_lt : (w : ℕ) (ds : List ℕ) → Below w ds → number w ds < 2 ^ (w * length ds)
number_lt w [] h = rw mul-zero (omega arith)
number_lt w (d ∷ ds) h = rw (mul-suc, pow-add) (omega (arith, digits_lt (h 0) (number_lt w ds (λ i. h (suc i)))))

pub number_more : (w : ℕ) (t : List ℕ) (i : ℕ) → i < length t → number w (take (i + 1) t) ≡ number w (take i t) * 2 ^ w + get_or t i 0
number_more w t i h = rw (add-one, take-suc t i 0, number_append, mul-one, mul-zero) (omega arith)

pub length_digits : (w n v : ℕ) → length (digits w n v) ≡ n
length_digits w zero v = refl
length_digits w (suc n) v = ap suc (length_digits w n v)

-- those above the b lowest, and the b lowest
pub digits_append : (w a b v : ℕ) → digits w (a + b) v ≡ digits w a (v / 2 ^ (w * b)) ++ digits w b v
digits_append w zero b v = ap (λ (n : ℕ). digits w n v) (zero-add b)
digits_append w (suc a) b v =
    let exp : w * (a + b) ≡ w * b + w * a = mul-add w a b ∙ add_comm (w * a) (w * b) in
    rw (suc-add a b, exp, ← shr-shr v (w * b) (w * a), digits_append w a b v)

-- digits to number to digits, and number to digits to number
pub digits-high : (w n m a v : ℕ) → n ≤ m → digits w n (a * 2 ^ (w * m) + v) ≡ digits w n v
digits-high w zero m a v h = refl
digits-high w (suc n) m a v h =
    λ i. part-high a v (w * m) (w * n) w (rw mul-suc at (mul-le-mul_left w h)) i ∷ digits-high w n m a v (omega arith) i

pub digits_number : (w : ℕ) (ds : List ℕ) → Below w ds → digits w (length ds) (number w ds) ≡ ds
digits_number w [] h = refl
digits_number w (d ∷ ds) h =
    λ i. (ap (λ (x : ℕ). x % 2 ^ w) (high d (w * length ds) (number_lt w ds tail)) ∙ mod-eq_of_lt (h 0)) i
    ∷ (digits-high w (length ds) (length ds) d (number w ds) (omega arith) ∙ digits_number w ds tail) i
  where
    tail : Below w ds
    tail i = h (suc i)

pub number_digits : (w n v : ℕ) → number w (digits w n v) ≡ v % 2 ^ (w * n)
number_digits w zero v = rw mul-zero (sym (mod-one v))
number_digits w (suc n) v = rw (length_digits w n v, number_digits w n v, mul-suc, add_comm (w * n) w, mod-pow-add)

-- element i of the digits of a number
pub get_d_digits : (w n v i : ℕ) → i < n → get_or (digits w n v) i 0 ≡ v / 2 ^ (w * (n - suc i)) % 2 ^ w
get_d_digits w zero v i h = absurd (omega arith)
get_d_digits w (suc n) v zero h = ap (λ (x : ℕ). v / 2 ^ (w * x) % 2 ^ w) (omega arith)
get_d_digits w (suc n) v (suc i) h =
    get_d_digits w n v i (omega arith) ∙ ap (λ (x : ℕ). v / 2 ^ (w * x) % 2 ^ w) (omega arith)

pub below-digits : (w n v : ℕ) → Below w (digits w n v)
below-digits w zero v i = pow_pos w
below-digits w (suc n) v zero = mod-lt (v / 2 ^ (w * n)) (pow_pos w)
below-digits w (suc n) v (suc i) = below-digits w n v i

pub below-take : (w n : ℕ) (s : List ℕ) → Below w s → Below w (take n s)
below-take w zero s h i = pow_pos w
below-take w (suc n) [] h i = pow_pos w
below-take w (suc n) (x ∷ xs) h zero = h 0
below-take w (suc n) (x ∷ xs) h (suc i) = below-take w n xs (λ j. h (suc j)) i

pub below-drop : (w n : ℕ) (s : List ℕ) → Below w s → Below w (drop n s)
below-drop w n s h i = rw get_or-drop (h (n + i))

pub number_fits : (w : ℕ) (t : List ℕ) (i k : ℕ) → Below w t → i ≤ k → number w (take i t) < 2 ^ (w * k)
number_fits w t i k b h =
    lt_of_lt_of_le (number_lt w (take i t) (below-take w i t b)) (pow_mono (mul-le-mul_left w (rw length-take (omega arith))))

-- `1 << k` at 64 bits
pub one_shl : (k : ℕ) → k ≤ 63 → 1 * 2 ^ k % 2 ^ 64 ≡ 2 ^ k
one_shl k h = shl_exact {a = 1} 1 k 64 (omega arith) (omega arith) ∙ one-mul (2 ^ k)
