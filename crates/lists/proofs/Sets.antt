-- Laws of sets as numbers: their bits, their count of ones, their trailing zeros.
use mathlib.Core.Path.{◌≡◌, refl, sym, ap, ap₂, ◌∙◌}
use mathlib.Core.Logic.{◌↔◌}
use mathlib.Core.Bool.{Bool, true, false, cond, ◌&&◌}
use Prim.Native.Nat.{ℕ, zero, suc, ◌+◌, ◌*◌, ◌-◌, ◌/◌, ◌%◌, ◌^◌, ◌≤◌, ◌<◌, min}
use native.Mathlib.Nat.{pow-suc, sub_self}
use native.Mathlib.Omega.{arith}
use lib.Arith.{digits_div, digits_mod}
use mir.Val.{bool_byte}
use lib.Bits.{bit_and, and_step}
use lib.Pow.{pow_pos, pow-add, pow_mono, shr-shr}
use lib.Count.{ones, ones_cat, count_trailing_zeros}
use Rattle.lists.specs.Sets.{set_of, count_of, lowest_of, Lowest}

bit : Bool → ℕ
bit b = cond b 1 0

bit_pow : (b : Bool) (n : ℕ) → cond b (2 ^ n) 0 ≡ bit b * 2 ^ n
unfolding bit
bit_pow true n = omega arith
bit_pow false n = omega arith

bit_small : (b : Bool) → bit b < 2
unfolding bit
bit_small true = omega arith
bit_small false = omega arith

pub set-cong : (n : ℕ) (f g : ℕ → Bool) → ((k : ℕ) → k < n → f k ≡ g k) → set_of n f ≡ set_of n g
unfolding set_of
set-cong zero f g h = refl
set-cong (suc n) f g h = ap₂ (λ (x : ℕ) (b : Bool). x + cond b (2 ^ n) 0) (set-cong n f g (λ k b. h k (omega arith))) (h n (omega arith))

pub set-lt : (n : ℕ) (f : ℕ → Bool) → set_of n f < 2 ^ n
unfolding set_of bit
set-lt zero f = omega arith
set-lt (suc n) f = top (f n) (set-lt n f)
  where
    top : (b : Bool) → set_of n f < 2 ^ n → set_of n f + cond b (2 ^ n) 0 < 2 ^ suc n
    top true h = rw pow-suc (omega arith)
    top false h = rw pow-suc (omega arith)

-- the set of f is twice that of f shifted by one, and f 0
set-shift : (n : ℕ) (f : ℕ → Bool) → set_of (suc n) f ≡ set_of n (λ k. f (suc k)) * 2 + bit (f 0)
unfolding set_of bit
set-shift zero f = refl
set-shift (suc n) f = ap (λ (x : ℕ). x + cond (f (suc n)) (2 ^ suc n) 0) (set-shift n f) ∙ top (f (suc n))
  where
    top : (b : Bool) → set_of n (λ k. f (suc k)) * 2 + bit (f 0) + cond b (2 ^ suc n) 0 ≡ (set_of n (λ k. f (suc k)) + cond b (2 ^ n) 0) * 2 + bit (f 0)
    top true = rw pow-suc (omega arith)
    top false = omega arith

-- ---- sets made from the top down

-- a set in two parts
pub set-parts : (n m : ℕ) (f : ℕ → Bool) → set_of (n + m) f ≡ set_of m (λ j. f (n + j)) * 2 ^ n + set_of n f
unfolding set_of
set-parts n zero f = ap (λ (x : ℕ). set_of x f) {x = n + 0} {y = n} (omega arith) ∙ omega arith
set-parts n (suc m) f = ap (λ (x : ℕ). set_of x f) {x = n + suc m} {y = suc (n + m)} (omega arith) ∙ ap (λ (x : ℕ). x + cond (f (n + m)) (2 ^ (n + m)) 0) (set-parts n m f) ∙ top (f (n + m))
  where
    top : (b : Bool) → set_of m (λ j. f (n + j)) * 2 ^ n + set_of n f + cond b (2 ^ (n + m)) 0 ≡ (set_of m (λ j. f (n + j)) + cond b (2 ^ m) 0) * 2 ^ n + set_of n f
    top true = rw (pow-add 2 n m) (omega arith)
    top false = omega arith

pub set-start : (w : ℕ) (f : ℕ → Bool) → 0 ≡ set_of (w - w) (λ j. f (w + j))
unfolding set_of
set-start w f = rw (sub_self w)

-- one bit, as the machine makes it of a truth value
pub set-one : (b : Bool) (f : ℕ → Bool) (i : ℕ) → b ≡ f i → bool_byte b ≡ set_of 1 (λ j. f (i + j))
unfolding set_of
set-one b f i e = rw e (ap bool_byte (ap f {x = i} {y = i + 0} (omega arith)) ∙ by (f (i + 0)))
  where
    by : (b : Bool) → bool_byte b ≡ 0 + cond b (2 ^ 0) 0
    by true = refl
    by false = refl

-- n numbers below k, from i on, of w numbers
module _ (n w k i : ℕ) (f : ℕ → Bool) (s x : ℕ) (below : i + n ≡ k) (inside : k ≤ w) (known : s ≡ set_of (w - k) (λ j. f (k + j))) (new : x ≡ set_of n (λ j. f (i + j))) where
  pub set-turn : s * 2 ^ n + x ≡ set_of (w - i) (λ j. f (i + j))
  set-turn =
      let rest = set-cong (w - k) (λ j. f (k + j)) (λ j. f (i + (n + j))) (λ j h. ap f (omega arith)) in
      let all : n + (w - k) ≡ w - i = omega arith in
      ap₂ (λ (a b : ℕ). a * 2 ^ n + b) (known ∙ rest) new ∙ sym (set-parts n (w - k) (λ j. f (i + j))) ∙ ap (λ (m : ℕ). set_of m (λ j. f (i + j))) all

  pub set-fits : w ≤ 64 → s * 2 ^ n + x < 2 ^ 64
  set-fits few = let p : 2 ^ (w - i) ≤ 2 ^ 64 = pow_mono {i = w - i} {j = 64} (omega arith) in omega (arith, set-turn, set-lt (w - i) (λ j. f (i + j)))

pub set-end : (w k s : ℕ) (f : ℕ → Bool) → k ≡ 0 → s ≡ set_of (w - k) (λ j. f (k + j)) → s ≡ set_of w f
set-end w k s f z e = e ∙ rw z (ap (λ (m : ℕ). set_of m (λ j. f (0 + j))) {x = w - 0} {y = w} (omega arith) ∙ set-cong w (λ j. f (0 + j)) f (λ j h. ap f (omega arith)))

-- what is in both
pub set_both : (n : ℕ) (f g : ℕ → Bool) → bit_and (set_of n f) (set_of n g) ≡ set_of n (λ k. f k && g k)
unfolding set_of bit
set_both zero f g = refl
set_both (suc n) f g =
    rw (set-shift n f, set-shift n g, set-shift n (λ k. f k && g k)) (
    and_step (set_of n (λ k. f (suc k)) * 2 + bit (f 0)) (set_of n (λ k. g (suc k)) * 2 + bit (g 0))
    ∙ rw (
      digits_div (set_of n (λ k. f (suc k))) (bit_small (f 0)),
      digits_div (set_of n (λ k. g (suc k))) (bit_small (g 0)),
      digits_mod (set_of n (λ k. f (suc k))) (bit_small (f 0)),
      digits_mod (set_of n (λ k. g (suc k))) (bit_small (g 0)),
      set_both n (λ k. f (suc k)) (λ k. g (suc k)),
    )
    (ap (λ (x : ℕ). set_of n (λ k. f (suc k) && g (suc k)) * 2 + x) (least (f 0) (g 0))))
  where
    least : (a b : Bool) → min (bit a) (bit b) ≡ bit (a && b)
    least true true = refl
    least true false = refl
    least false true = refl
    least false false = refl

-- bit k of the set is set exactly where f k holds
pub set-bit : (n : ℕ) (f : ℕ → Bool) (k : ℕ) → k < n → set_of n f / 2 ^ k % 2 ≡ cond (f k) 1 0
unfolding bit
set-bit zero f k h = absurd (omega arith)
set-bit (suc n) f zero h = rw (set-shift n f) (digits-mod_of (set_of n (λ k. f (suc k))) (f 0))
  where
    digits-mod_of : (x : ℕ) (b : Bool) → (x * 2 + bit b) / 1 % 2 ≡ cond b 1 0
    digits-mod_of x true = omega arith
    digits-mod_of x false = omega arith
set-bit (suc n) f (suc k) h =
    rw (set-shift n f) (
    sym (ap (λ (x : ℕ). x % 2) (shr-shr (set_of n (λ j. f (suc j)) * 2 + bit (f 0)) 1 k) ∙ ap (λ (x : ℕ). (set_of n (λ j. f (suc j)) * 2 + bit (f 0)) / 2 ^ x % 2) {x = 1 + k} (omega arith))
    ∙ ap (λ (x : ℕ). x / 2 ^ k % 2) (digits_div (set_of n (λ j. f (suc j))) (bit_small (f 0))) ∙ set-bit n (λ j. f (suc j)) k (omega arith))

pub count-le : (n : ℕ) (f : ℕ → Bool) → count_of n f ≤ n
unfolding count_of
count-le zero f = omega arith
count-le (suc n) f = by (f n) (count-le n f)
  where
    by : (b : Bool) → count_of n f ≤ n → count_of n f + cond b 1 0 ≤ suc n
    by true h = omega arith
    by false h = omega arith

-- the count is the set's count of ones
pub set-ones : (n : ℕ) (f : ℕ → Bool) → ones (set_of n f) ≡ count_of n f
unfolding set_of count_of ones bit
set-ones zero f = refl
set-ones (suc n) f =
    let e : set_of n f + cond (f n) (2 ^ n) 0 ≡ bit (f n) * 2 ^ n + set_of n f = omega (arith, bit_pow (f n) n) in
    ap ones e ∙ ones_cat n (bit (f n)) (set_of n f) (set-lt n f) ∙ omega (arith, set-ones n f, one (f n))
  where
    one : (b : Bool) → ones (bit b) ≡ cond b 1 0
    one true = refl
    one false = refl

-- the lowest is the number of the set's trailing zeros, in a word of w bits
pub set-trailing : (n w : ℕ) (f : ℕ → Bool) → n ≤ w → 0 < set_of n f → count_trailing_zeros w (set_of n f) ≡ lowest_of n f
unfolding set_of lowest_of count_trailing_zeros bit
set-trailing zero w f h s = absurd (none s)
  where
    none : 0 < set_of zero f → ⊥
    none p = omega arith
set-trailing (suc n) zero f h s = absurd (omega arith)
set-trailing (suc n) (suc w) f h s = rw (set-shift n f) (by (f 0) (rw (set-shift n f) at s) (set-trailing n w (λ k. f (suc k)) (omega arith)))
  where
    by : (b : Bool) → 0 < set_of n (λ k. f (suc k)) * 2 + bit b
        → (0 < set_of n (λ k. f (suc k)) → count_trailing_zeros w (set_of n (λ k. f (suc k))) ≡ lowest_of n (λ k. f (suc k)))
        → count_trailing_zeros (suc w) (set_of n (λ k. f (suc k)) * 2 + bit b) ≡ cond b 0 (suc (lowest_of n (λ k. f (suc k))))
    by true p rest = rw (digits_mod (set_of n (λ k. f (suc k))) {m = 2} {r = 1} (omega arith))
    by false p rest =
        rw (digits_mod (set_of n (λ k. f (suc k))) {m = 2} {r = 0} (omega arith), digits_div (set_of n (λ k. f (suc k))) {m = 2} {r = 0} (omega arith))
        (ap suc (rest (omega arith)))

pub set-lowest : (n : ℕ) (f : ℕ → Bool) → 0 < set_of n f → Lowest n f (lowest_of n f)
unfolding set_of lowest_of bit
set-lowest zero f s = absurd (none s)
  where
    none : 0 < set_of zero f → ⊥
    none p = omega arith
set-lowest (suc n) f s = by (f 0) refl (set-lowest n (λ k. f (suc k)))
  where
    below : (k : ℕ) → f 0 ≡ false → ((j : ℕ) → j < k → f (suc j) ≡ false) → (j : ℕ) → j < suc k → f j ≡ false
    below k e h zero b = e
    below k e h (suc j) b = h j (omega arith)

    by : (b : Bool) → f 0 ≡ b → (0 < set_of n (λ k. f (suc k)) → Lowest n (λ k. f (suc k)) (lowest_of n (λ k. f (suc k)))) → Lowest (suc n) f (lowest_of (suc n) f)
    by true e rest = rw e (record { inside = omega arith; holds = e; least = λ j b. absurd (omega arith) })
    by false e rest =
        let r = rest (omega (arith, rw e at (rw (set-shift n f) at s))) in
        rw e (record { inside = omega (arith, r.inside); holds = r.holds; least = below (lowest_of n (λ k. f (suc k))) e r.least })

-- an empty set holds nothing
pub set-empty : (n : ℕ) (f : ℕ → Bool) → (set_of n f ≡ 0) ↔ ((k : ℕ) → k < n → f k ≡ false)
unfolding set_of
set-empty n f = (λ e k h. no (f k) (sym (set-bit n f k h) ∙ rw e (zero_bit k)), none n f)
  where
    zero_bit : (k : ℕ) → 0 / 2 ^ k % 2 ≡ 0
    zero_bit k = ap (λ (x : ℕ). x % 2) (ap (λ (x : ℕ). x / 2 ^ k) {y = 0 * 2 ^ k + 0} (omega arith) ∙ digits_div 0 (pow_pos k))

    no : (b : Bool) → ◌≡◌ {A = ℕ} (cond b 1 0) 0 → b ≡ false
    no true e = absurd (omega arith)
    no false e = refl

    none : (n : ℕ) (f : ℕ → Bool) → ((k : ℕ) → k < n → f k ≡ false) → set_of n f ≡ 0
    none zero f h = refl
    none (suc n) f h = rw (h n (omega arith)) (omega (arith, none n f (λ k b. h k (omega arith))))
