-- A set of overloaded constraints has two numbers: the one that it is tried under, a bit for each of its places among them, and the one with bit k for
-- constraint k. The second grows with the first.
use mathlib.Core.Path.{◌≡◌, refl, ap, ◌∙◌}
use mathlib.Core.Bool.{Bool, true, false, cond, ◌&&◌}
use Prim.Native.Nat.{ℕ, zero, suc, ◌+◌, ◌*◌, ◌/◌, ◌%◌, ◌^◌, ◌≤◌, ◌<◌}
use native.Mathlib.Nat.{mod-lt, mod-eq_of_lt}
use native.Mathlib.Omega.{arith}
use lib.Dec.{eqb}
use lib.Pow.{pow_pos, mod-pow-add}
use Rattle.lists.specs.Sets.{set_of, count_of}
use Rattle.lists.proofs.Sets.{set-lt}
use Rattle.exposure_rules.proofs.Sets.{counts-one, counts-none}

-- a number's lowest c + 1 bits: bit c, and those below it
low_bits : (m c : ℕ) → m % 2 ^ (c + 1) ≡ m / 2 ^ c % 2 * 2 ^ c + m % 2 ^ c
low_bits m c = ap (λ (x : ℕ). m % 2 ^ x) {x = c + 1} {y = 1 + c} (omega arith) ∙ mod-pow-add m 1 c

-- the highest bits u and v decide, and where they are equal what is below them: A and B of the one number, X and Y of the other
top : (u v C A B P X Y : ℕ) → u < 2 → v < 2 → A < C → B < C → X < P → u * C + A ≤ v * C + B → (A ≤ B → X ≤ Y) → X + cond (eqb u 1) P 0 ≤ Y + cond (eqb v 1) P 0
top zero zero C A B P X Y hu hv ha hb hx h rest = omega (arith, rest (omega arith))
top zero (suc zero) C A B P X Y hu hv ha hb hx h rest = omega arith
top (suc zero) zero C A B P X Y hu hv ha hb hx h rest = absurd (omega arith)
top (suc zero) (suc zero) C A B P X Y hu hv ha hb hx h rest = omega (arith, rest (omega arith))
top zero (suc (suc v)) C A B P X Y hu hv ha hb hx h rest = absurd (omega arith)
top (suc zero) (suc (suc v)) C A B P X Y hu hv ha hb hx h rest = absurd (omega arith)
top (suc (suc u)) v C A B P X Y hu hv ha hb hx h rest = absurd (omega arith)

module _ (over : ℕ → Bool) where
  -- constraint k is in the set tried under m
  abbrev pub among : ℕ → ℕ → Bool
  among m k = over k && eqb (m / 2 ^ count_of k over % 2) 1

  grows : (k m n : ℕ) → m % 2 ^ count_of k over ≤ n % 2 ^ count_of k over → set_of k (among m) ≤ set_of k (among n)
  unfolding set_of
  grows zero m n h = omega arith
  grows (suc k) m n h = by (over k) refl (grows k m n)
    where
      c : ℕ
      c = count_of k over

      upper : over k ≡ true
          → m / 2 ^ count_of k over % 2 * 2 ^ count_of k over + m % 2 ^ count_of k over ≤ n / 2 ^ count_of k over % 2 * 2 ^ count_of k over + n % 2 ^ count_of k over
      upper e = rw (counts-one over k e, low_bits m (count_of k over), low_bits n (count_of k over)) at h

      by : (b : Bool) → over k ≡ b → (m % 2 ^ count_of k over ≤ n % 2 ^ count_of k over → set_of k (among m) ≤ set_of k (among n))
          → set_of k (among m) + cond (b && eqb (m / 2 ^ count_of k over % 2) 1) (2 ^ k) 0 ≤ set_of k (among n) + cond (b && eqb (n / 2 ^ count_of k over % 2) 1)
          (2 ^ k) 0
      by true e rest =
          top (m / 2 ^ c % 2) (n / 2 ^ c % 2) (2 ^ c) (m % 2 ^ c) (n % 2 ^ c) (2 ^ k) (set_of k (among m)) (set_of k (among n)) (mod-lt (m / 2 ^ c) (omega arith))
          (mod-lt (n / 2 ^ c) (omega arith)) (mod-lt m (pow_pos c)) (mod-lt n (pow_pos c)) (set-lt k (among m)) (upper e) rest
      by false e rest = omega (arith, rest (rw (counts-none over k e) at h))

  -- sets tried under numbers in their order
  pub set-grows : (k m n : ℕ) → m ≤ n → n < 2 ^ count_of k over → set_of k (among m) ≤ set_of k (among n)
  set-grows k m n h small =
      let first : m % 2 ^ count_of k over ≡ m = mod-eq_of_lt (omega arith) in
      let second : n % 2 ^ count_of k over ≡ n = mod-eq_of_lt small in
      grows k m n (omega (arith, first, second))
