-- `store_digits`: what is left to store makes the digits that are wanted.
-- the last digit stored, and the others to store
use mathlib.Core.Path.{◌≡◌, refl, sym, ap, ◌∙◌}
use mathlib.Core.Bool.{Bool, true, false}
use mathlib.Core.List.{List}
use Prim.Native.Nat.{ℕ, zero, suc, ◌+◌, ◌-◌, ◌/◌, ◌%◌, ◌^◌, ◌≤◌, ◌<◌}
use native.Mathlib.Omega.{arith}
use borrow.Author.Tests.{ltb-true, ltb-false}
use lib.Dec.{ltb}
use lib.ListN.{length, set, length-set}
use lib.Seq.{sets}
use Rattle.text_format.specs.Decimal.{decimal}
use Rattle.text_format.proofs.Digits.{left, left_some, some_decimal, one_digit, next-digit, length-next, length-one}
use Rattle.text_format.proofs.Putting.{last-first, filled}
use Rattle.text_format.proofs.figures.store_digits.Goals as goal

module _ (cells : List ℕ) (n : ℕ) (fits : n < 2 ^ 64) where
  abbrev Stored : ℕ → Type 0
  Stored k = (length (left k (n / 10)) ≡ k) × (sets (set cells k (48 + n % 10)) 0 (left k (n / 10)) ≡ sets cells 0 (decimal n))

  one : n < 10 → Stored 0
  one h = let last : n % 10 ≡ n = omega arith in (refl, rw last (ap (sets cells 0) (sym (one_digit n h))))

  more : (k : ℕ) → 10 ≤ n → length (decimal n) ≡ suc (suc k) → Stored (suc k)
  more k h long =
      let m = length-next n fits h in
      (omega (arith, m), last-first (decimal (n / 10)) cells 0 (suc k) (48 + n % 10) (omega (arith, m)) ∙ ap (sets cells 0) (sym (next-digit n fits h)))

  by : (k : ℕ) (b : Bool) → ltb n 10 ≡ b → length (decimal n) ≡ suc k → Stored k
  by zero true t long = one (ltb-true n 10 t)
  by zero false t long = absurd (omega (arith, length-next n fits (ltb-false n 10 t), some_decimal (n / 10)))
  by (suc k) true t long = absurd (omega (arith, length-one n (ltb-true n 10 t)))
  by (suc k) false t long = more k (ltb-false n 10 t) long

stored : (cells : List ℕ) (k n : ℕ) → n < 2 ^ 64 → length (left k n) ≡ k → 1 ≤ k
    → (length (left (k - 1) (n / 10)) ≡ k - 1) × (sets (set cells (k - 1) (48 + n % 10)) 0 (left (k - 1) (n / 10)) ≡ sets cells 0 (left k n))
stored cells zero n fits fill some = absurd (omega arith)
stored cells (suc k) n fits fill some = let down : suc k - 1 ≡ k = omega arith in rw down (by cells n fits k (ltb n 10) refl fill)

pub loop-k-init : goal.loop-k-init
loop-k-init c =
    let n = c.args.n in
    let place = c.args.place.now in
    let all = left_some (length place) n (omega (arith, some_decimal n, c.requires)) in
    (omega arith, refl, ap length all ∙ sym c.requires, ap (sets place 0) all ∙ filled (decimal n) place c.requires)

pub loop-k-preserved : goal.loop-k-preserved
loop-k-preserved c =
    let l = c.loop-k in
    let s = stored l.place l.k l.rest (omega (arith, l.invariant.0, c.ranges.n.fits)) l.invariant.2 (omega arith) in
    (omega (arith, l.invariant.0), simp length-set l.invariant.1, s.0, s.1 ∙ l.invariant.3)
