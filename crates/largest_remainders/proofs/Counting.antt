-- Laws of sums of naturals and of counts. A count is a sum of bits, so each law of counts is one of sums and a case on a bit.
use mathlib.Core.Path.{◌≡◌, refl, sym, ap₂, subst}
use mathlib.Core.Bool.{Bool, true, false, cond, not}
use Prim.Native.Nat.{ℕ, zero, suc, ◌+◌, ◌*◌, ◌≤◌, ◌<◌}
use native.Mathlib.Nat.{add-mul, mul-suc, eq-or-lt_of_le}
use mathlib.Core.Logic.{⊎_elim}
use native.Mathlib.Numerals.{add-one}
use native.Mathlib.Omega.{arith}
use lib.Dec.{T}
use Rattle.lists.specs.Sets.{count_of}
use Rattle.largest_remainders.specs.Ranks.{add_to}

-- ---- sums

pub add_to-mono : (n : ℕ) {f g : ℕ → ℕ} → ((k : ℕ) → k < n → f k ≤ g k) → add_to n f ≤ add_to n g
unfolding add_to
add_to-mono zero h = omega arith
add_to-mono (suc n) h = omega (arith, add_to-mono n (λ k b. h k (omega arith)), h n (omega arith))

pub add_to-cong : (n : ℕ) {f g : ℕ → ℕ} → ((k : ℕ) → k < n → f k ≡ g k) → add_to n f ≡ add_to n g
unfolding add_to
add_to-cong zero h = refl
add_to-cong (suc n) h = ap₂ ◌+◌ (add_to-cong n (λ k b. h k (omega arith))) (h n (omega arith))

pub add_to-plus : (n : ℕ) (f g : ℕ → ℕ) → add_to n (λ k. f k + g k) ≡ add_to n f + add_to n g
unfolding add_to
add_to-plus zero f g = refl
add_to-plus (suc n) f g = omega (arith, add_to-plus n f g)

pub add_to-times : (n : ℕ) (f : ℕ → ℕ) (c : ℕ) → add_to n (λ k. f k * c) ≡ add_to n f * c
unfolding add_to
add_to-times zero f c = omega arith
add_to-times (suc n) f c = rw add-mul (omega (arith, add_to-times n f c))

-- a sum of fewer terms
pub add_to-prefix : (n i : ℕ) (f : ℕ → ℕ) → i ≤ n → add_to i f ≤ add_to n f
unfolding add_to
add_to-prefix zero i f h = let e : i ≡ 0 = omega arith in rw e (omega arith)
add_to-prefix (suc n) i f h = ⊎_elim (λ e. rw e (omega arith)) (λ l. omega (arith, add_to-prefix n i f (omega arith))) (eq-or-lt_of_le h)

-- terms of at most b each
pub add_to-bounded : (n b : ℕ) (f : ℕ → ℕ) → ((k : ℕ) → k < n → f k ≤ b) → add_to n f ≤ b * n
unfolding add_to
add_to-bounded zero b f h = omega arith
add_to-bounded (suc n) b f h = rw mul-suc (omega (arith, add_to-bounded n b f (λ k l. h k (omega arith)), h n (omega arith)))

-- one term more, as code counts
pub add_to-more : (i : ℕ) (f : ℕ → ℕ) → add_to (i + 1) f ≡ add_to i f + f i
unfolding add_to
add_to-more i f = rw add-one

pub add_to-none : (f : ℕ → ℕ) → add_to 0 f ≡ 0
unfolding add_to
add_to-none f = refl

-- smaller terms, one of them strictly
pub add_to-strict : (n : ℕ) {f g : ℕ → ℕ} (i : ℕ) → i < n → ((k : ℕ) → k < n → f k ≤ g k) → f i < g i → add_to n f < add_to n g
unfolding add_to
add_to-strict zero i b h s = absurd (omega arith)
add_to-strict (suc n) {f} {g} i b h s =
    ⊎_elim
    (λ e. omega (arith, add_to-mono n (λ k b. h k (omega arith)), last (omega arith)))
    (λ l. omega (arith, add_to-strict n i (omega arith) (λ k b. h k (omega arith)) s, h n (omega arith)))
    (eq-or-lt_of_le b)
  where
    last : i ≡ n → f n < g n
    last e = rw e at s

-- ---- counts

-- a test as a number
abbrev pub bit : Bool → ℕ
bit b = cond b 1 0

pub bit_le : (a b : Bool) → (T a → T b) → bit a ≤ bit b
bit_le true true h = omega arith
bit_le true false h = absurd (h tt)
bit_le false b h = omega arith

pub bit_lt : (a b : Bool) → T (not a) → T b → bit a < bit b
bit_lt true b p q = absurd p
bit_lt false true p q = omega arith
bit_lt false false p q = absurd q

pub bit_same : (a b : Bool) → (T a → T b) → (T b → T a) → a ≡ b
bit_same true true f g = refl
bit_same true false f g = absurd (f tt)
bit_same false true f g = absurd (g tt)
bit_same false false f g = refl

pub count-is_sum : (n : ℕ) (f : ℕ → Bool) → count_of n f ≡ add_to n (λ k. bit (f k))
unfolding count_of add_to
count-is_sum zero f = refl
count-is_sum (suc n) f = omega (arith, count-is_sum n f)

pub count-mono : (n : ℕ) (f g : ℕ → Bool) → ((k : ℕ) → k < n → T (f k) → T (g k)) → count_of n f ≤ count_of n g
count-mono n f g h = rw (count-is_sum n f, count-is_sum n g) (add_to-mono n (λ k b. bit_le (f k) (g k) (h k b)))

-- the same, and i is in the second only
pub count-strict : (n : ℕ) (f g : ℕ → Bool) (i : ℕ) → i < n → ((k : ℕ) → k < n → T (f k) → T (g k)) → T (not (f i)) → T (g i) → count_of n f < count_of n g
count-strict n f g i b h p q = rw (count-is_sum n f, count-is_sum n g) (add_to-strict n i b (λ k b. bit_le (f k) (g k) (h k b)) (bit_lt (f i) (g i) p q))

pub count_same : (n : ℕ) (f g : ℕ → Bool) → ((k : ℕ) → k < n → f k ≡ g k) → count_of n f ≡ count_of n g
count_same n f g h = omega (arith, count-mono n f g (λ k b t. subst T (h k b) t), count-mono n g f (λ k b t. subst T (sym (h k b)) t))

pub count-all : (n : ℕ) → count_of n (λ k. true) ≡ n
unfolding count_of
count-all zero = refl
count-all (suc n) = omega (arith, count-all n)

pub count_none : (n : ℕ) → count_of n (λ k. false) ≡ 0
unfolding count_of
count_none zero = refl
count_none (suc n) = omega (arith, count_none n)

-- one place more, as code counts
pub count-more : (i : ℕ) (f : ℕ → Bool) → count_of (i + 1) f ≡ count_of i f + bit (f i)
unfolding count_of
count-more i f = rw add-one

pub count-start : (f : ℕ → Bool) → count_of 0 f ≡ 0
unfolding count_of
count-start f = refl

-- what holds of no two places holds of one at most
pub count-one : (n : ℕ) (f : ℕ → Bool) → ((i j : ℕ) → i < n → j < n → T (f i) → T (f j) → i ≡ j) → count_of n f ≤ 1
unfolding count_of
count-one zero f h = omega arith
count-one (suc n) f h = by (f n) (λ t. t) (count-one n f (λ i j b c. h i j (omega arith) (omega arith)))
  where
    by : (b : Bool) → (T b → T (f n)) → count_of n f ≤ 1 → count_of n f + bit b ≤ 1
    by true t r =
        omega (arith, count_none n, count-mono n f (λ k. false) (λ k b p. absurd (apart k b (h k n (omega arith) (omega arith) p (t tt)))))
      where
        apart : (k : ℕ) → k < n → k ≡ n → ⊥
        apart k b e = omega arith
    by false t r = omega arith
