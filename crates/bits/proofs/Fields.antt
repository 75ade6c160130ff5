-- Laws of `field` and `fields`: where a field lies, a run of fields, and a field gathered from bytes.
use mathlib.Core.Path.{◌≡◌, sym, ap, ◌∙◌}
use Prim.Native.Nat.{ℕ, suc, ◌+◌, ◌-◌, ◌*◌, ◌/◌, ◌%◌, ◌^◌, ◌≤◌, ◌<◌}
use native.Mathlib.Nat.{mul-le-mul_left, mul-suc, mod-lt}
use native.Mathlib.Omega.{arith}
use mathlib.Core.List.{List, ◌∷◌}
use lib.ListN.{length, get_or, take, drop, length-drop, take-append-drop}
use lib.Seq.{take-add, length-take-le}
use lib.Pow.{pow_pos, shr-shr}
use Rattle.bits.specs.Bits.{number, digits, field, fields}
use Rattle.bits.proofs.Numbers.{Below, part-high, part_low, number_append, number_lt, number_fits, length_digits, get_d_digits, below-digits, below-drop}

pub field_lt : (s : List ℕ) (o w : ℕ) → field s o w < 2 ^ w
unfolding field
field_lt s o w = mod-lt _ (pow_pos w)

-- only the bytes that the field touches count: k bytes from byte f on
pub field-window : (s : List ℕ) (o w f k : ℕ) → Below 8 s → 8 * f ≤ o → o + w ≤ 8 * (f + k) → f + k ≤ length s
    → field s o w ≡ number 8 (take k (drop f s)) / 2 ^ (8 * (f + k) - (o + w)) % 2 ^ w
unfolding field
field-window s o w f k b lo hi le =
    ap (λ (x : ℕ). number 8 s / 2 ^ x % 2 ^ w) (omega arith)
    ∙ ap (λ (x : ℕ). x / 2 ^ (8 * r + e) % 2 ^ w) cut
    ∙ part_low (number 8 (take f s) * 2 ^ (8 * k) + M) (number 8 rest) (8 * r) e w below
    ∙ part-high (number 8 (take f s)) M (8 * k) e w (omega arith)
  where
    r : ℕ
    r = length s - (f + k)

    e : ℕ
    e = 8 * (f + k) - (o + w)

    rest : List ℕ
    rest = drop (f + k) s

    M : ℕ
    M = number 8 (take k (drop f s))

    long : length rest ≡ r
    long = length-drop (f + k) s

    below : number 8 rest < 2 ^ (8 * r)
    below = rw long at (number_lt 8 rest (below-drop 8 (f + k) s b))

    mid : length (take k (drop f s)) ≡ k
    mid = length-take-le k (drop f s) (rw length-drop (omega arith))

    cut : number 8 s ≡ (number 8 (take f s) * 2 ^ (8 * k) + M) * 2 ^ (8 * r) + number 8 rest
    cut =
        ap (number 8) (sym (take-append-drop (f + k) s)) ∙ number_append 8 (take (f + k) s) rest
        ∙ rw (long, take-add, number_append, mid)

-- bytes gathered one by one
pub window_fits : (s : List ℕ) (f i k acc : ℕ) → Below 8 s → i ≤ k → acc ≡ number 8 (take i (drop f s)) → acc < 2 ^ (8 * k)
window_fits s f i k acc b h e = rw e (number_fits 8 (drop f s) i k (below-drop 8 f s b) h)

-- k gathered bytes, shifted and masked
pub field-code : (s : List ℕ) (o w k acc : ℕ) → Below 8 s → o % 8 + w ≤ 8 * k → o / 8 + k ≤ length s → acc ≡ number 8 (take k (drop (o / 8) s))
    → acc / 2 ^ (8 * k - o % 8 - w) % 2 ^ w ≡ field s o w
field-code s o w k acc b hi le e =
    let same : 8 * k - o % 8 - w ≡ 8 * (o / 8 + k) - (o + w) = omega arith in
    rw (e, same) (sym (field-window s o w (o / 8) k b (omega arith) (omega arith) le))

-- the eight bytes that end with the field's last one, shifted and masked
pub late_code : (s : List ℕ) (o w acc : ℕ) → Below 8 s → 57 ≤ o + w → o + w ≤ 8 * length s → w ≤ 32 → acc ≡ number 8 (take 8 (drop ((o + w - 1) / 8 - 7) s))
    → acc / 2 ^ (7 - (o + w - 1) % 8) % 2 ^ w ≡ field s o w
late_code s o w acc b late le few e =
    let f = (o + w - 1) / 8 - 7 in
    let same : 7 - (o + w - 1) % 8 ≡ 8 * (f + 8) - (o + w) = omega arith in
    rw (e, same) (sym (field-window s o w f 8 b (omega arith) (omega arith) (omega arith)))

-- field i of a run is the field at its own bit
pub field-of_run : (s : List ℕ) (o w n i : ℕ) → i < n → o + w * n ≤ 8 * length s → get_or (fields s o w n) i 0 ≡ field s (o + w * i) w
unfolding field fields
field-of_run s o w n i h le =
    get_d_digits w n (number 8 s / 2 ^ (8 * length s - (o + w * n))) i h
    ∙ ap (λ (x : ℕ). x % 2 ^ w) (shr-shr (number 8 s) (8 * length s - (o + w * n)) (w * (n - suc i)))
    ∙ ap (λ (x : ℕ). number 8 s / 2 ^ x % 2 ^ w) (omega (arith, ap (λ (x : ℕ). w * x) {x = n} {y = i + 1 + (n - suc i)} (omega arith)))

-- a run is its first field and the run behind it
pub fields-cons : (s : List ℕ) (o w n : ℕ) → o + w * suc n ≤ 8 * length s → fields s o w (suc n) ≡ field s o w ∷ fields s (o + w) w n
unfolding field fields
fields-cons s o w n le =
    let head : 8 * length s - (o + w * suc n) + w * n ≡ 8 * length s - (o + w) = omega (arith, mul-suc w n) in
    let tail : 8 * length s - (o + w * suc n) ≡ 8 * length s - (o + w + w * n) = omega (arith, mul-suc w n) in
    λ i. (ap (λ (x : ℕ). x % 2 ^ w) (shr-shr (number 8 s) (8 * length s - (o + w * suc n)) (w * n)) ∙ ap (λ (x : ℕ). number 8 s / 2 ^ x % 2 ^ w) head) i
    ∷ digits w n (number 8 s / 2 ^ tail i)

pub length_fields : (s : List ℕ) (o w n : ℕ) → length (fields s o w n) ≡ n
unfolding fields
length_fields s o w n = length_digits w n (number 8 s / 2 ^ (8 * length s - (o + w * n)))

pub below-fields : (s : List ℕ) (o w n : ℕ) → Below w (fields s o w n)
unfolding fields
below-fields s o w n = below-digits w n (number 8 s / 2 ^ (8 * length s - (o + w * n)))

-- field i of n lies within the run
pub within : (o w n i m at : ℕ) → i < n → at ≡ o + w * i → o + w * n ≤ m → at + w ≤ m
within o w n i m at h e le = omega (arith, mul-le-mul_left w h)
