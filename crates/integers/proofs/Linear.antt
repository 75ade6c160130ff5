-- The integers ℤ of lib.IntN as an ordered commutative ring, and a way to prove any linear law of ℤ, and many a polynomial one, by `omega arith` over ℕ.
-- `x ⊖ y` is x − y for two naturals. Every integer is such a difference (`⊖of`), and sums, products, negation, the order and equality of
-- differences are those of naturals (`⊖s`).
use mathlib.Core.Path.{◌≡◌, refl, ap, subst}
use mathlib.Core.Logic.{◌↔◌}
use mathlib.Core.Bool.{Bool, true, false, not, cond}
use Prim.Native.Nat.{ℕ, zero, suc, ◌+◌, ◌*◌, ◌-◌, ◌≤◌, ◌<◌, max}
use native.Mathlib.Nat.{mul-le-mul_right}
use native.Mathlib.Omega.{arith}
use lib.Dec.{T, ltb, ltb→lt, nltb→le, leb→le, le→leb, lt→ltb}
use lib.IntN.{ℤ, pos, negsuc, neg_ℤ, sub_ℕ, ◌+ℤ◌, ◌-ℤ◌, ◌*ℤ◌, *ℤ_comm}
use lib.Signed.{◌≤ℤ◌, ◌<ℤ◌, ≤ℤ_refl}
use Rattle.integers.specs.Sums.{max0}

-- x − y
infixl 60 ◌⊖◌
pub ◌⊖◌ : ℕ → ℕ → ℤ
x ⊖ y = sub_ℕ x y

cond_ind : (c : Bool) (x y : ℤ) (P : ℤ → Type 0) → (T c → P x) → (T (not c) → P y) → P (cond c x y)
cond_ind true x y P f g = f tt
cond_ind false x y P f g = g tt

-- a difference is n or −(n + 1)
module _ (P : ℕ → ℕ → ℤ → Type 0) (f : (n y : ℕ) → P (n + y) y (pos n)) (g : (n x : ℕ) → P x (suc (n + x)) (negsuc n)) where
  shape : (x y : ℕ) → P x y (x ⊖ y)
  unfolding ◌⊖◌
  shape x y = cond_ind (ltb x y) (negsuc (y - suc x)) (pos (x - y)) (P x y)
      (λ t. let l : x < y = ltb→lt x y t in subst (λ (n : ℕ). P x n (negsuc (y - suc x))) (omega arith) (g (y - suc x) x))
      (λ t. let l : y ≤ x = nltb→le x y t in subst (λ (n : ℕ). P n y (pos (x - y))) (omega arith) (f (x - y) y))

pos_is : (n x y : ℕ) → x ≡ n + y → pos n ≡ x ⊖ y
pos_is n x y = shape (λ x y z. x ≡ n + y → pos n ≡ z) (λ m y e. ap pos (omega arith)) (λ m x e. absurd (omega arith)) x y

negsuc_is : (n x y : ℕ) → y ≡ suc (n + x) → negsuc n ≡ x ⊖ y
negsuc_is n x y = shape (λ x y z. y ≡ suc (n + x) → negsuc n ≡ z) (λ m y e. absurd (omega arith)) (λ m x e. ap negsuc (omega arith)) x y

neg_is : (n x y : ℕ) → y ≡ n + x → neg_ℤ (pos n) ≡ x ⊖ y
neg_is zero x y e = pos_is 0 x y (omega arith)
neg_is (suc n) x y e = negsuc_is n x y (omega arith)

module _ (P : ℕ → ℕ → ℤ → ℕ → ℕ → ℤ → Type 0)
    (pp : (n y m v : ℕ) → P (n + y) y (pos n) (m + v) v (pos m)) (pn : (n y m u : ℕ) → P (n + y) y (pos n) u (suc (m + u)) (negsuc m))
    (np : (n x m v : ℕ) → P x (suc (n + x)) (negsuc n) (m + v) v (pos m)) (nn : (n x m u : ℕ) → P x (suc (n + x)) (negsuc n) u (suc (m + u)) (negsuc m)) where
  shapes : (x y u v : ℕ) → P x y (x ⊖ y) u v (u ⊖ v)
  shapes x y u v = shape (λ x y z. P x y z u v (u ⊖ v))
      (λ n y. shape (λ u v w. P (n + y) y (pos n) u v w) (pp n y) (pn n y) u v) (λ n x. shape (λ u v w. P x (suc (n + x)) (negsuc n) u v w) (np n x) (nn n x) u v) x y

-- ---- equality and order of two differences
eq← : (x y u v : ℕ) → x + v ≡ u + y → x ⊖ y ≡ u ⊖ v
eq← = shapes (λ x y z u v w. x + v ≡ u + y → z ≡ w)
    (λ n y m v e. ap pos (omega arith)) (λ n y m u e. absurd (omega arith)) (λ n x m v e. absurd (omega arith)) (λ n x m u e. ap negsuc (omega arith))

pub le_⊖ : (x y u v : ℕ) → (x ⊖ y ≤ℤ u ⊖ v) ↔ (x + v ≤ u + y)
le_⊖ = shapes (λ x y z u v w. (z ≤ℤ w) ↔ (x + v ≤ u + y))
    (λ n y m v. (λ h. omega (arith, leb→le n m h.le), λ h. record { le = omega (arith, le→leb) })) (λ n y m u. (λ h. absurd h.le, λ h. absurd (omega arith)))
    (λ n x m v. (λ h. omega arith, λ h. record { le = tt })) (λ n x m u. (λ h. omega (arith, leb→le m n h.le), λ h. record { le = omega (arith, le→leb) }))

pub lt_⊖ : (x y u v : ℕ) → (x ⊖ y <ℤ u ⊖ v) ↔ (x + v < u + y)
lt_⊖ = shapes (λ x y z u v w. (z <ℤ w) ↔ (x + v < u + y))
    (λ n y m v. (λ h. omega (arith, ltb→lt n m h.lt), λ h. record { lt = omega (arith, lt→ltb) })) (λ n y m u. (λ h. absurd h.lt, λ h. absurd (omega arith)))
    (λ n x m v. (λ h. omega arith, λ h. record { lt = tt })) (λ n x m u. (λ h. omega (arith, ltb→lt m n h.lt), λ h. record { lt = omega (arith, lt→ltb) }))

eq→ : (x y u v : ℕ) → x ⊖ y ≡ u ⊖ v → x + v ≡ u + y
eq→ x y u v e = omega (arith, (le_⊖ x y u v).0 (rw e (≤ℤ_refl (u ⊖ v))), (le_⊖ u v x y).0 (rw e (≤ℤ_refl (u ⊖ v))))

pub eq_⊖ : (x y u v : ℕ) → (x ⊖ y ≡ u ⊖ v) ↔ (x + v ≡ u + y)
eq_⊖ x y u v = (eq→ x y u v, eq← x y u v)

-- ---- the operations on differences
pub sum-⊖ : (x y u v : ℕ) → (x ⊖ y) +ℤ (u ⊖ v) ≡ (x + u) ⊖ (y + v)
unfolding ◌⊖◌
sum-⊖ = shapes (λ x y z u v w. z +ℤ w ≡ (x + u) ⊖ (y + v))
    (λ n y m v. pos_is (n + m) (n + y + (m + v)) (y + v) (omega arith)) (λ n y m u. eq← n (suc m) (n + y + u) (y + suc (m + u)) (omega arith))
    (λ n x m v. eq← m (suc n) (x + (m + v)) (suc (n + x) + v) (omega arith)) (λ n x m u. negsuc_is (suc (n + m)) (x + u) (suc (n + x) + suc (m + u)) (omega arith))

pub prod_⊖ : (x y u v : ℕ) → (x ⊖ y) *ℤ (u ⊖ v) ≡ (x * u + y * v) ⊖ (x * v + y * u)
prod_⊖ = shapes (λ x y z u v w. z *ℤ w ≡ (x * u + y * v) ⊖ (x * v + y * u))
    (λ n y m v. pos_is (n * m) _ _ (omega arith)) (λ n y m u. neg_is (n * suc m) _ _ (omega arith))
    (λ n x m v. neg_is (suc n * m) _ _ (omega arith)) (λ n x m u. pos_is (suc n * suc m) _ _ (omega arith))

pub neg_⊖ : (x y : ℕ) → neg_ℤ (x ⊖ y) ≡ y ⊖ x
neg_⊖ = shape (λ x y z. neg_ℤ z ≡ y ⊖ x) (λ n y. neg_is n y (n + y) refl) (λ n x. pos_is (suc n) (suc (n + x)) x (omega arith))

pub pos_⊖ : (n : ℕ) → pos n ≡ n ⊖ 0
pos_⊖ n = pos_is n n 0 (omega arith)

pub negsuc_⊖ : (n : ℕ) → negsuc n ≡ 0 ⊖ suc n
negsuc_⊖ n = negsuc_is n 0 (suc n) (omega arith)

pub neg_pos_⊖ : (n : ℕ) → neg_ℤ (pos n) ≡ 0 ⊖ n
neg_pos_⊖ n = neg_is n 0 n (omega arith)

pub max0-⊖ : (x y : ℕ) → max0 (x ⊖ y) ≡ max x y ⊖ y
max0-⊖ = shape (λ x y z. max0 z ≡ max x y ⊖ y) (λ n y. pos_is n (max (n + y) y) y (omega arith)) (λ n x. pos_is 0 (max x (suc (n + x))) (suc (n + x)) (omega arith))

-- ---- every integer is a difference
abbrev pub above : ℤ → ℕ
above (pos n) = n
above (negsuc n) = 0

abbrev pub below : ℤ → ℕ
below (pos n) = 0
below (negsuc n) = suc n

pub ⊖of : (a : ℤ) → a ≡ above a ⊖ below a
⊖of (pos n) = pos_⊖ n
⊖of (negsuc n) = negsuc_⊖ n

pub ruleset ⊖s = (sum-⊖, prod_⊖, neg_⊖, neg_pos_⊖, pos_⊖, negsuc_⊖, max0-⊖, le_⊖, lt_⊖, eq_⊖)

-- ---- the laws, each by the same line: `rw` names the integers of the statement, whose hypotheses are left in the goal
pub *ℤ-assoc : (a b c : ℤ) → a *ℤ b *ℤ c ≡ a *ℤ (b *ℤ c)
*ℤ-assoc a b c = rw (⊖of a, ⊖of b, ⊖of c) (simp ⊖s (omega arith))

pub *ℤ-left_comm : (a b c : ℤ) → a *ℤ (b *ℤ c) ≡ b *ℤ (a *ℤ c)
*ℤ-left_comm a b c = rw (⊖of a, ⊖of b, ⊖of c) (simp ⊖s (omega arith))

pub +-*ℤ : (a b c : ℤ) → (a +ℤ b) *ℤ c ≡ a *ℤ c +ℤ b *ℤ c
+-*ℤ a b c = rw (⊖of a, ⊖of b, ⊖of c) (simp ⊖s (omega arith))

pub *-+ℤ : (a b c : ℤ) → a *ℤ (b +ℤ c) ≡ a *ℤ b +ℤ a *ℤ c
*-+ℤ a b c = rw (⊖of a, ⊖of b, ⊖of c) (simp ⊖s (omega arith))

pub neg_* : (a b : ℤ) → neg_ℤ a *ℤ b ≡ neg_ℤ (a *ℤ b)
neg_* a b = rw (⊖of a, ⊖of b) (simp ⊖s (omega arith))

pub *-neg : (a b : ℤ) → a *ℤ neg_ℤ b ≡ neg_ℤ (a *ℤ b)
*-neg a b = rw (⊖of a, ⊖of b) (simp ⊖s (omega arith))

pub +ℤ-left_comm : (a b c : ℤ) → a +ℤ (b +ℤ c) ≡ b +ℤ (a +ℤ c)
+ℤ-left_comm a b c = rw (⊖of a, ⊖of b, ⊖of c) (simp ⊖s (omega arith))

pub swap4 : (a b c d : ℤ) → a +ℤ b +ℤ (c +ℤ d) ≡ a +ℤ c +ℤ (b +ℤ d)
swap4 a b c d = rw (⊖of a, ⊖of b, ⊖of c, ⊖of d) (simp ⊖s (omega arith))

pub *ℤ-pos1 : (a : ℤ) → a *ℤ pos 1 ≡ a
*ℤ-pos1 a = rw (⊖of a) (simp ⊖s (omega arith))

pub ≤ℤ-trans : {a b c : ℤ} → a ≤ℤ b → b ≤ℤ c → a ≤ℤ c
≤ℤ-trans {a} {b} {c} = rw (⊖of a, ⊖of b, ⊖of c) (simp ⊖s (omega arith))

pub ≤ℤ-antisym : {a b : ℤ} → a ≤ℤ b → b ≤ℤ a → a ≡ b
≤ℤ-antisym {a} {b} = rw (⊖of a, ⊖of b) (simp ⊖s (omega arith))

pub ≤ℤ-of_≡ : {a b : ℤ} → a ≡ b → a ≤ℤ b
≤ℤ-of_≡ {a} {b} = rw (⊖of a, ⊖of b) (simp ⊖s (omega arith))

pub not_≤ℤ : {a b : ℤ} → (¬ (a ≤ℤ b)) ↔ (b <ℤ a)
not_≤ℤ {a} {b} = rw (⊖of a, ⊖of b) (simp ⊖s (omega arith))

pub +ℤ-mono : {a b c d : ℤ} → a ≤ℤ b → c ≤ℤ d → (a +ℤ c) ≤ℤ (b +ℤ d)
+ℤ-mono {a} {b} {c} {d} = rw (⊖of a, ⊖of b, ⊖of c, ⊖of d) (simp ⊖s (omega arith))

pub *pos_mono : (n : ℕ) {a b : ℤ} → a ≤ℤ b → (a *ℤ pos n) ≤ℤ (b *ℤ pos n)
*pos_mono n {a} {b} = rw (⊖of a, ⊖of b) (simp ⊖s (λ h. omega (arith, mul-le-mul_right n h)))

pub minus≤0 : {a b : ℤ} → (a ≤ℤ b) ↔ ((a -ℤ b) ≤ℤ pos 0)
minus≤0 {a} {b} = rw (⊖of a, ⊖of b) (simp ⊖s (omega arith))

-- ---- polynomials: `simp expand (simp monos (omega arith))` multiplies out, takes each monomial for one unknown, and names no integer but those
-- that stand alone, outside every product: `simp expand (rw (⊖of a) (simp monos (omega arith)))`
pub up : ℤ → ℤ → ℕ
up a b = above (a *ℤ b)

pub down : ℤ → ℤ → ℕ
down a b = below (a *ℤ b)

pub mono_⊖ : (a b : ℤ) → a *ℤ b ≡ up a b ⊖ down a b
unfolding up down
mono_⊖ a b = ⊖of (a *ℤ b)

pub ruleset expand = (+-*ℤ, *-+ℤ, neg_*, *-neg, *ℤ-assoc, *ℤ_comm, *ℤ-left_comm)

pub ruleset monos = (prod_⊖, mono_⊖, ⊖s)
