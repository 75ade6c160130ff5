-- The eight bytes of a number, as the library makes them of it and it of them, are its digits of 8 bits.
use mathlib.Core.Path.{◌≡◌, refl, sym, ap, ◌∙◌}
use mathlib.Core.List.{List, [], ◌∷◌, ◌++◌, append_assoc, append-nil}
use Prim.Native.Nat.{ℕ, zero, suc, ◌+◌, ◌-◌, ◌*◌, ◌/◌, ◌%◌, ◌^◌, ◌≤◌, ◌<◌}
use native.Mathlib.Nat.{mul-suc, div-one, mod-eq_of_lt}
use native.Mathlib.Omega.{arith}
use lib.ListN.{length, take, drop, replicate, length-append, length-drop}
use lib.Seq.{take_all, drop_at, drop-drop, length-take-le}
use lib.Pow.{pow-add}
use borrow.Rule.Slice.PartMut.{put_mid}
use Rattle.std.proofs.Common.{w32, w64}
use Rattle.std.specs.Int.{to_be_bytes, from_be_bytes, bytes_high_first}
use Rattle.std.proofs.lemmas.Nat.{be_bytes_8}
use Rattle.bits.specs.Bits.{number, digits}
use Rattle.bits.proofs.Numbers.{Below, number_append, number_digits, length_digits, digits_append, below-take, below-drop}

power_of_byte : (k : ℕ) → 256 ^ k ≡ 2 ^ (8 * k)
power_of_byte zero = refl
power_of_byte (suc k) = rw (mul-suc, pow-add) (omega (arith, power_of_byte k))

high_digits : (n v : ℕ) → bytes_high_first n v ≡ digits 8 n v
high_digits zero v = refl
high_digits (suc zero) v = ap (λ (x : ℕ). x % 256 ∷ []) (sym (div-one v))
high_digits (suc (suc n)) v = λ i. v / power_of_byte (suc n) i % 256 ∷ high_digits (suc n) v i

all_digits : (v : ℕ) → to_be_bytes w64 v ≡ digits 8 8 v
all_digits v = high_digits 8 v

-- n bytes, stored from a place on
placed : (n v at : ℕ) (buf part : List ℕ) → part ≡ digits 8 n v → put_mid at (at + n - at) buf part ≡ take at buf ++ digits 8 n v ++ drop (at + n) buf
placed n v at buf part is =
    let count : at + n - at ≡ n = omega arith in
    rw (count, is, drop-drop) (sym (append_assoc (take at buf) (digits 8 n v) (drop (at + n) buf)))

-- the four bytes of a number
pub stored_four : (v at : ℕ) (buf all part : List ℕ) → all ≡ to_be_bytes w32 v → part ≡ all
    → put_mid at (at + 4 - at) buf part ≡ take at buf ++ digits 8 4 v ++ drop (at + 4) buf
stored_four v at buf all part is whole = placed 4 v at buf part (whole ∙ is ∙ high_digits 4 v)

-- the n lowest of eight
pub stored : (n v at : ℕ) (buf all part : List ℕ) → n ≤ 8 → all ≡ to_be_bytes w64 v → part ≡ take (8 - (8 - n)) (drop (8 - n) all)
    → put_mid at (at + n - at) buf part ≡ take at buf ++ digits 8 n v ++ drop (at + n) buf
stored n v at buf all part h is cut =
    let front : 8 ≡ 8 - n + n = omega arith in
    let high = v / 2 ^ (8 * n) in
    let split : to_be_bytes w64 v ≡ digits 8 (8 - n) high ++ digits 8 n v = all_digits v ∙ ap (λ (m : ℕ). digits 8 m v) front ∙ digits_append 8 (8 - n) n v in
    let low : drop (8 - n) all ≡ digits 8 n v =
    ap (drop (8 - n)) (is ∙ split) ∙ drop_at (digits 8 (8 - n) high) (digits 8 n v) (8 - n) (length_digits 8 (8 - n) high) in
    let lowest : part ≡ digits 8 n v = cut ∙ ap (take (8 - (8 - n))) low ∙ take_all (8 - (8 - n)) (digits 8 n v) (rw length_digits (omega arith)) in
    placed n v at buf part lowest

-- ---- k bytes behind noughts

no_number : (m n : ℕ) → number 8 (take m (replicate n 0)) ≡ 0
no_number zero n = refl
no_number (suc m) zero = refl
no_number (suc m) (suc n) = rw (no_number m n) (omega arith)

below_noughts : (n : ℕ) → Below 8 (replicate n 0)
below_noughts zero i = omega arith
below_noughts (suc n) zero = omega arith
below_noughts (suc n) (suc i) = below_noughts n i

below-append : (w : ℕ) (xs ys : List ℕ) → Below w xs → Below w ys → Below w (xs ++ ys)
below-append w [] ys f g i = g i
below-append w (x ∷ xs) ys f g zero = f 0
below-append w (x ∷ xs) ys f g (suc i) = below-append w xs ys (λ j. f (suc j)) g i

-- loaded as one number
pub loaded : (k v first : ℕ) (s part : List ℕ) → Below 8 s → k ≤ 8 → first + k ≤ length s → v < 2 ^ 64 → part ≡ take (first + k - first) (drop first s)
    → v ≡ from_be_bytes w64 (put_mid (8 - k) (8 - (8 - k)) (replicate 8 0) part) → v ≡ number 8 (take k (drop first s))
loaded k v first s part b h room fits cut is =
    sym (mod-eq_of_lt fits) ∙ sym (number_digits 8 8 v) ∙ ap (number 8) (sym (all_digits v) ∙ be_bytes_8 bytes v long below (is ∙ ap (from_be_bytes w64) same))
    ∙ number_append 8 front run ∙ rw (no_number (8 - k) 8) (omega arith)
  where
    run : List ℕ
    run = take k (drop first s)

    front : List ℕ
    front = take (8 - k) (replicate 8 0)

    bytes : List ℕ
    bytes = front ++ run

    run-long : length run ≡ k
    run-long = length-take-le k (drop first s) (rw length-drop (omega arith))

    long : length bytes ≡ 8
    long = rw (length-append front run, length-take-le {A = ℕ} (8 - k) (replicate 8 0) (omega arith), run-long) (omega arith)

    below : Below 8 bytes
    below = below-append 8 front run (below-take 8 (8 - k) (replicate 8 0) (below_noughts 8)) (below-take 8 k (drop first s) (below-drop 8 first s b))

    same : put_mid (8 - k) (8 - (8 - k)) (replicate 8 0) part ≡ bytes
    same =
        let count : first + k - first ≡ k = omega arith in
        let last : 8 - k + (8 - (8 - k)) ≡ 8 = omega arith in
        rw (cut, count, drop-drop, last) (ap (λ (l : List ℕ). front ++ l) (append-nil run))
