-- Laws of a writer, which writes one field after the other: a turn of its loop, and what it has written after many fields.
use mathlib.Core.Path.{◌≡◌, refl, sym, ap, ap₂, ◌∙◌}
use Prim.Native.Nat.{ℕ, ◌+◌, ◌-◌, ◌*◌, ◌/◌, ◌%◌, ◌^◌, ◌≤◌, ◌<◌}
use native.Mathlib.Nat.{add-zero, mul-zero, mod-mod, mod-one, mod-lt}
use native.Mathlib.Omega.{arith}
use mathlib.Core.List.{List, [], ◌∷◌, ◌++◌, map}
use lib.ListN.{length, get_or, take, drop, length-append}
use lib.Seq.{take_all, take_at, drop_at, length-take-le}
use lib.Pow.{shl-shr, high, low, mod-pow-add, mod-mod-pow, pow-add, pow_pos}
use lib.Arith.{digits_lt}
use Rattle.bits.specs.Bits.{number, digits}
use Rattle.bits.specs.Fields.{Field, bits, total_width, packed, file_of}
use Rattle.bits.specs.Inner.{written, bits_written, WritesOn}
use Rattle.bits.specs.declared.BitWriter.{BitWriter}
use Rattle.bits.proofs.Numbers.{Below, number_append, number_more, length_digits, digits_number, number_digits, below-take}
use Rattle.lists.proofs.Fill.{drop-later}
use Rattle.bits.proofs.Files.{packed-append, total-run, packed-run}

-- ---- `v` of w bits behind the bits of `a`, at 64 bits

shifted : (a w : ℕ) → w ≤ 64 → a * 2 ^ w % 2 ^ 64 ≡ a % 2 ^ (64 - w) * 2 ^ w
shifted a w h =
    let all : 64 ≡ 64 - w + w = omega arith in
    let none : a * 2 ^ w % 2 ^ w ≡ 0 = ap (λ (x : ℕ). x % 2 ^ w) (sym (add-zero (a * 2 ^ w))) ∙ low a w {lo = 0} (pow_pos w) in
    ap (λ (x : ℕ). a * 2 ^ w % 2 ^ x) all ∙ mod-pow-add (a * 2 ^ w) (64 - w) w ∙ rw (shl-shr a w, none) (omega arith)

module _ (a v w : ℕ) (few : w ≤ 32) (fit : v < 2 ^ w) where
  pub join_lt : a * 2 ^ w % 2 ^ 64 + v < 2 ^ 64
  join_lt =
      let sum : 64 - w + w ≡ 64 = omega arith in
      let all : 2 ^ (64 - w) * 2 ^ w ≡ 2 ^ 64 = sym (pow-add 2 (64 - w) w) ∙ ap (λ (x : ℕ). 2 ^ x) sum in
      rw (shifted a w (omega arith)) (rw all at (digits_lt (mod-lt a (pow_pos (64 - w))) fit))

  -- only the lowest bits of `a` count
  pub join_low : (held : ℕ) → held + w ≤ 64 → (a * 2 ^ w % 2 ^ 64 + v) % 2 ^ (held + w) ≡ a % 2 ^ held * 2 ^ w + v
  join_low held h =
      let most : 64 - w ≡ 64 - w - held + held = omega arith in
      let lost : a % 2 ^ (64 - w) % 2 ^ held ≡ a % 2 ^ held = ap (λ (x : ℕ). a % 2 ^ x % 2 ^ held) most ∙ mod-mod-pow a (64 - w - held) held in
      rw (shifted a w (omega arith)) (mod-pow-add (a % 2 ^ (64 - w) * 2 ^ w + v) held w ∙ rw (high (a % 2 ^ (64 - w)) w fit, low (a % 2 ^ (64 - w)) w fit, lost))

-- ---- bytes that leave the writer

-- n bytes, the highest that are held: what is written does not change, nor do the bytes behind them
module _ (n : ℕ) (s t : List ℕ) (at w : ℕ) (room : at + n ≤ length s) (is : t ≡ take at s ++ digits 8 n w ++ drop (at + n) s) where
  front_long : length (take at s ++ digits 8 n w) ≡ at + n
  front_long = length-append (take at s) (digits 8 n w) ∙ ap₂ ◌+◌ (length-take-le at s (omega arith)) (length_digits 8 n w)

  pub bytes_rest : drop (at + n) t ≡ drop (at + n) s
  bytes_rest = ap (drop (at + n)) is ∙ drop_at (take at s ++ digits 8 n w) (drop (at + n) s) (at + n) front_long

  front : number 8 (take (at + n) t) ≡ number 8 (take at s) * 2 ^ (8 * n) + w % 2 ^ (8 * n)
  front =
      ap (λ (x : List ℕ). number 8 (take (at + n) x)) is
      ∙ ap (number 8) (take_at (take at s ++ digits 8 n w) (drop (at + n) s) (at + n) front_long)
      ∙ rw (number_append 8 (take at s) (digits 8 n w), length_digits 8 n w, number_digits 8 n w)

  pub bytes-turn : (held bits : ℕ) → 8 * n ≤ held → w ≡ bits / 2 ^ (held - 8 * n) % 2 ^ (8 * n)
      → number 8 (take (at + n) t) * 2 ^ (held - 8 * n) + bits % 2 ^ (held - 8 * n) ≡ number 8 (take at s) * 2 ^ held + bits % 2 ^ held
  bytes-turn held bits big e =
      let all : held ≡ 8 * n + (held - 8 * n) = omega arith in
      let pows : 2 ^ held ≡ 2 ^ (8 * n) * 2 ^ (held - 8 * n) = ap (λ (x : ℕ). 2 ^ x) all ∙ pow-add 2 (8 * n) (held - 8 * n) in
      let split : bits % 2 ^ held ≡ w * 2 ^ (held - 8 * n) + bits % 2 ^ (held - 8 * n) =
      ap (λ (x : ℕ). bits % 2 ^ x) all ∙ mod-pow-add bits (8 * n) (held - 8 * n) ∙ rw e in
      let small : w % 2 ^ (8 * n) ≡ w = rw e (mod-mod _ _) in
      rw (front, small) (omega (arith, ap (λ (x : ℕ). number 8 (take at s) * x) pows, split))

-- what was written before, and then v
pub put_more : (n held k bits v w : ℕ) → bits ≡ k * 2 ^ w + v → n * 2 ^ (held + w) + bits ≡ (n * 2 ^ held + k) * 2 ^ w + v
put_more n held k bits v w e = rw (e, pow-add) (omega arith)

-- ---- a writer that goes on

pub stays : (buf : List ℕ) (p : BitWriter) → WritesOn buf p buf p
stays buf p = record { onward = omega arith; rest = refl }

pub goes_on : {a b c : List ℕ} {p q r : BitWriter} → WritesOn a p b q → WritesOn b q c r → WritesOn a p c r
goes_on {a} {b} {c} {p} {q} {r} x y = record { onward = omega (arith, x.onward, y.onward); rest = y.rest ∙ drop-later b a q.at r.at y.onward x.rest }

-- ---- a writer that started at the beginning and put the fields one by one

-- at the beginning nothing is written
pub writer_start : (buf : List ℕ) (p : BitWriter) → bits_written p ≡ 0 → written buf p ≡ packed []
unfolding written
writer_start buf p at =
    let h : p.held ≡ 0 = omega arith in
    let a : p.at ≡ 0 = omega arith in
    rw (h, a, mod-one p.bits) (omega arith)

-- one field more: Y was written before it, Z after it
pub writer_step : (fs : List Field) (w v Y Z : ℕ) → Y ≡ packed fs → Z ≡ Y * 2 ^ w + v → Z ≡ packed (fs ++ bits w v ∷ [])
writer_step fs w v Y Z y z = z ∙ rw (y, packed-append, add-zero w) (omega arith)

-- what stands before a writer between two bytes
pub writer_bytes : (buf : List ℕ) (r : BitWriter) (m : ℕ) → r.held ≤ 7 → bits_written r ≡ 8 * m → written buf r ≡ number 8 (take m buf)
unfolding written
writer_bytes buf r m few end =
    let h : r.held ≡ 0 = omega arith in
    let a : r.at ≡ m = omega arith in
    rw (h, a, mod-one r.bits) (omega arith)

-- at the end the bytes are the file of the fields
pub writer_end : (fs : List Field) (m : ℕ) (buf : List ℕ) (r : BitWriter) → Below 8 buf → m ≤ length buf → r.held ≤ 7
    → bits_written r ≡ total_width fs → total_width fs ≡ 8 * m
    → written buf r ≡ packed fs → take m buf ≡ file_of fs
unfolding file_of
writer_end fs m buf r b le few at end is =
    let n : length (take m buf) ≡ total_width fs / 8 = omega (arith, length-take-le m buf le) in
    sym (digits_number 8 (take m buf) (below-take 8 m buf b)) ∙ ap₂ (digits 8) n (sym (writer_bytes buf r m few (at ∙ end)) ∙ is)

-- ---- a run t of fields of w bits, behind what was written before, X

module _ (w : ℕ) (t : List ℕ) (X : ℕ) where
  pub run_start : X ≡ X * 2 ^ (w * 0) + number w (take 0 t)
  run_start = rw mul-zero (omega arith)

  pub run_turn : (i v Y Z : ℕ) → i < length t → v ≡ get_or t i 0 → Y ≡ X * 2 ^ (w * i) + number w (take i t) → Z ≡ Y * 2 ^ w + v
      → Z ≡ X * 2 ^ (w * (i + 1)) + number w (take (i + 1) t)
  run_turn i v Y Z h e y z =
      let k : w * (i + 1) ≡ w * i + w = omega arith in
      z ∙ rw (y, e, number_more w t i h, k, pow-add 2 (w * i) w) (omega arith)

  pub run_end : (i Y : ℕ) → i ≡ length t → Y ≡ X * 2 ^ (w * i) + number w (take i t) → Y ≡ X * 2 ^ (w * length t) + number w t
  run_end i Y e y = y ∙ rw (take_all i t (omega arith), e)

-- the run as fields behind the fields xs
pub run_packed : (w : ℕ) (t : List ℕ) (xs : List Field) (Y : ℕ) → Y ≡ packed xs * 2 ^ (w * length t) + number w t → Y ≡ packed (xs ++ map (bits w) t)
run_packed w t xs Y y = y ∙ rw (packed-append xs (map (bits w) t), total-run w t, packed-run w t)
