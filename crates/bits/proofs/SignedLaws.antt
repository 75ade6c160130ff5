-- Two's complement there and back, over the width.
use mathlib.Core.Path.{◌≡◌, refl, sym, ap, ◌∙◌}
use Prim.Native.Nat.{ℕ, zero, suc, ◌-◌, ◌+◌, ◌*◌, ◌%◌, ◌^◌, ◌≤◌, ◌<◌}
use native.Mathlib.Nat.{two-pow-succ, mod-eq_of_lt, mul-add-mod_self_right}
use native.Mathlib.Omega.{arith}
use mathlib.Core.List.{List, [], ◌∷◌, map}
use lib.ListN.{get_or}
use lib.Pow.{pow_pos}
use mathlib.Core.Bool.{Bool, true, false, cond}
use borrow.Author.Tests.{ltb-true, ltb-false, lt-ltb, le-ltb}
use lib.Dec.{ltb}
use lib.Arith.{comp_comp}
use lib.IntN.{ℤ, pos, negsuc, ◌+ℤ◌, ◌-ℤ◌}
use lib.Signed.{mag}
use mir.Syntax.{w64}
use mir.Val.{SFits}
use Rattle.bits.specs.Signed.{of_int, to_int}
use Rattle.bits.proofs.Numbers.{Below}

-- w bits are twice as many as w - 1
half : (w : ℕ) → 1 ≤ w → 2 ^ w ≡ 2 ^ (w - 1) + 2 ^ (w - 1)
half w h = ap (λ (x : ℕ). 2 ^ x) (omega arith) ∙ two-pow-succ (w - 1)

pub to_low : (w : ℕ) {v : ℕ} → v < 2 ^ (w - 1) → to_int w v ≡ pos v
to_low w {v} h = rw (lt-ltb v (2 ^ (w - 1)) h)

pub to_high : (w : ℕ) {v : ℕ} → 2 ^ (w - 1) ≤ v → to_int w v ≡ negsuc (2 ^ w - suc v)
to_high w {v} h = rw (le-ltb v (2 ^ (w - 1)) h)

pub to_of : (w : ℕ) (z : ℤ) → 1 ≤ w → mag z < 2 ^ (w - 1) → to_int w (of_int w z) ≡ z
to_of w (pos n) p h = to_low w h
to_of w (negsuc n) p h = to_high w (omega (arith, half w p)) ∙ ap negsuc (comp_comp (omega (arith, half w p)))

pub of-to : (w v : ℕ) → v < 2 ^ w → of_int w (to_int w v) ≡ v
of-to w v h = by (ltb v (2 ^ (w - 1)))
  where
    by : (b : Bool) → of_int w (cond b (pos v) (negsuc (2 ^ w - suc v))) ≡ v
    by true = refl
    by false = comp_comp h

-- an integer of w bits has w bits
pub of_lt : (w : ℕ) (z : ℤ) → 1 ≤ w → mag z < 2 ^ (w - 1) → of_int w z < 2 ^ w
of_lt w (pos n) p h = omega (arith, half w p)
of_lt w (negsuc n) p h = omega (arith, half w p)

-- ---- lists of them

-- each integer is one of w bits. Past the end `get_or` gives 0, as for `Below`
abbrev pub Small : ℕ → List ℤ → Type 0
Small w zs = (i : ℕ) → mag (get_or zs i (pos 0)) < 2 ^ (w - 1)

pub to_of_all : (w : ℕ) (zs : List ℤ) → 1 ≤ w → Small w zs → map (to_int w) (map (of_int w) zs) ≡ zs
to_of_all w [] p h = refl
to_of_all w (z ∷ zs) p h = λ i. to_of w z p (h 0) i ∷ to_of_all w zs p (λ j. h (suc j)) i

pub of-to_all : (w : ℕ) (vs : List ℕ) → Below w vs → map (of_int w) (map (to_int w) vs) ≡ vs
of-to_all w [] h = refl
of-to_all w (v ∷ vs) h = λ i. of-to w v (h 0) i ∷ of-to_all w vs (λ j. h (suc j)) i

pub of-below : (w : ℕ) (zs : List ℤ) → 1 ≤ w → Small w zs → Below w (map (of_int w) zs)
of-below w [] p h i = pow_pos w
of-below w (z ∷ zs) p h zero = of_lt w z p (h 0)
of-below w (z ∷ zs) p h (suc i) = of-below w zs p (λ j. h (suc j)) i

-- ---- the code: half a power of the width put on and taken off again, or a whole one put on

less : (a b : ℕ) → a < b → pos a -ℤ pos b ≡ negsuc (b - suc a)
less a zero h = absurd (omega arith)
less a (suc b) h = rw (lt-ltb a (suc b) h)

more : (a b : ℕ) → pos (a + b) -ℤ pos b ≡ pos a
more a zero = ap pos (omega arith)
more a (suc b) = rw (le-ltb (a + suc b) (suc b) (omega arith)) (ap pos (omega arith))

pub code_to : (w v H : ℕ) → 1 ≤ w → v < 2 ^ w → H ≡ 2 ^ (w - 1) → pos ((v + H) % 2 ^ w) -ℤ pos H ≡ to_int w v
code_to w v H p h e = by (ltb v (2 ^ (w - 1))) refl
  where
    by : (b : Bool) → ltb v (2 ^ (w - 1)) ≡ b → pos ((v + H) % 2 ^ w) -ℤ pos H ≡ to_int w v
    by true q =
        let low = ltb-true v (2 ^ (w - 1)) q in
        let kept : (v + H) % 2 ^ w ≡ v + H = mod-eq_of_lt (omega (arith, half w p)) in
        rw kept (more v H ∙ sym (to_low w low))
    by false q =
        let high = ltb-false v (2 ^ (w - 1)) q in
        let over : v + H ≡ 1 * 2 ^ w + (v - H) = omega (arith, half w p) in
        let small : (v - H) % 2 ^ w ≡ v - H = mod-eq_of_lt (omega arith) in
        let rest : (v + H) % 2 ^ w ≡ v - H = rw over (mul-add-mod_self_right 1 (2 ^ w) (v - H) ∙ small) in
        let back : H - suc (v - H) ≡ 2 ^ w - suc v = omega (arith, half w p) in
        rw rest (less (v - H) H (omega (arith, half w p)) ∙ ap negsuc back ∙ sym (to_high w high))

pub to_fits : (w v : ℕ) → 2 ^ w < 2 ^ 63 → v < 2 ^ w → SFits w64 (to_int w v)
to_fits w v s h = by (ltb v (2 ^ (w - 1)))
  where
    by : (b : Bool) → SFits w64 (cond b (pos v) (negsuc (2 ^ w - suc v)))
    by true = record { sfits = omega arith }
    by false = record { sfits = omega arith }

-- an integer with the power put on
abbrev pub raised : ℕ → ℤ → ℕ
raised w (pos n) = n + 2 ^ w
raised w (negsuc n) = 2 ^ w - suc n

module _ (w : ℕ) (p : 1 ≤ w) where
  pub raised_is : (z : ℤ) → mag z < 2 ^ (w - 1) → z +ℤ pos (2 ^ w) ≡ pos (raised w z)
  raised_is (pos n) h = refl
  raised_is (negsuc n) h = rw (le-ltb (2 ^ w) (suc n) (omega (arith, half w p)))

  pub raised-code : (z : ℤ) → mag z < 2 ^ (w - 1) → raised w z % 2 ^ w ≡ of_int w z
  raised-code (pos n) h =
      let over : n + 2 ^ w ≡ 1 * 2 ^ w + n = omega arith in
      let small : n % 2 ^ w ≡ n = mod-eq_of_lt (omega (arith, half w p)) in
      rw over (mul-add-mod_self_right 1 (2 ^ w) n ∙ small)
  raised-code (negsuc n) h = mod-eq_of_lt (omega (arith, pow_pos w))

  pub raised_lt : (z : ℤ) → mag z < 2 ^ (w - 1) → raised w z < 2 ^ w + 2 ^ w
  raised_lt (pos n) h = omega (arith, half w p)
  raised_lt (negsuc n) h = omega (arith, half w p)
