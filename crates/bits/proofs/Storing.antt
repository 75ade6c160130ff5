-- The n lowest digits of a number stored from a place on: two runs of them, side by side, are one.
use mathlib.Core.Path.{◌≡◌, ap, ◌∙◌}
use Prim.Native.Nat.{ℕ, suc, ◌+◌, ◌*◌, ◌/◌, ◌%◌, ◌^◌, ◌≤◌}
use native.Mathlib.Nat.{add_assoc}
use native.Mathlib.Numerals.{add-one}
use native.Mathlib.Omega.{arith}
use mathlib.Core.List.{List, ◌++◌, append_assoc}
use lib.ListN.{length, set, take, drop}
use lib.Seq.{set_split, append_snoc, take-take, take-append-le, drop_at, length-take-le}
use Rattle.bits.specs.Bits.{digits}
use Rattle.bits.proofs.Numbers.{digits_append}

pub stored_one : (w v at x : ℕ) (l : List ℕ) → at + 1 ≤ length l → x ≡ v / 2 ^ (w * 0) % 2 ^ w → set l at x ≡ take at l ++ digits w 1 v ++ drop (at + 1) l
stored_one w v at x l room is = rw (set_split l at x (omega arith), ← append_snoc (take at l) x (drop (suc at) l), is, add-one at)

-- t has the b lower digits in place, and u those and the a digits above them
pub stored : (w a b v at : ℕ) (l : List ℕ) {t u : List ℕ} → at + (a + b) ≤ length l
    → t ≡ take (at + a) l ++ digits w b v ++ drop (at + a + b) l
    → u ≡ take at t ++ digits w a (v / 2 ^ (w * b)) ++ drop (at + a) t
    → u ≡ take at l ++ digits w (a + b) v ++ drop (at + (a + b)) l
stored w a b v at l {t} room lower upper =
    let is = lower ∙ append_assoc (take (at + a) l) (digits w b v) (drop (at + a + b) l) in
    let long = length-take-le (at + a) l (omega arith) in
    let front =
    ap (take at) is ∙ take-append-le at (take (at + a) l) (digits w b v ++ drop (at + a + b) l) (omega (arith, long)) ∙ take-take at (at + a) l (omega arith) in
    let behind = ap (drop (at + a)) is ∙ drop_at (take (at + a) l) (digits w b v ++ drop (at + a + b) l) (at + a) long in
    upper ∙ rw (front, behind, digits_append w a b v, ← add_assoc) (simp append_assoc)
