-- The size nat_abs of sums, differences, products and finite sums. `omega` takes nat_abs z as an unknown natural number.
use mathlib.Core.Path.{◌≡◌, refl, sym, ap, ◌∙◌}
use mathlib.Core.Bool.{Bool, true, false, cond, ◌&&◌}
use mathlib.Core.List.{List, [], ◌∷◌}
use Prim.Native.Nat.{ℕ, zero, suc, ◌+◌, ◌*◌, ◌-◌, ◌<◌, ◌≤◌}
use native.Mathlib.Nat.{mul-le-mul, mul-suc, mul-zero, zero-mul}
use native.Mathlib.Omega.{arith}
use borrow.Author.Tests.{ltb-false, lt-ltb}
use lib.Dec.{T, ltb, ltb→lt}
use lib.ListN.{length}
use lib.IntN.{ℤ, pos, negsuc, neg_ℤ, nat_abs, sub_ℕ, ◌+ℤ◌, ◌-ℤ◌, ◌*ℤ◌, +ℤ_idl, -ℤ-+ℤ_cancel}
use Rattle.lists.specs.Lists.{Each}
use Rattle.integers.specs.Sums.{max0, nonzero, sum_to, sum_over_of}

nat_abs_subℕ : (a b : ℕ) → nat_abs (sub_ℕ a b) ≤ a + b
nat_abs_subℕ a b = go (ltb a b) (λ t. ltb→lt a b t)
  where
    go : (c : Bool) → (T c → a < b) → nat_abs (cond c (negsuc (b - suc a)) (pos (a - b))) ≤ a + b
    go true f = let h : a < b = f tt in omega arith
    go false f = omega arith

pub nat_abs_add : (x y : ℤ) → nat_abs (x +ℤ y) ≤ nat_abs x + nat_abs y
nat_abs_add (pos a) (pos b) = omega arith
nat_abs_add (pos a) (negsuc b) = nat_abs_subℕ a (suc b)
nat_abs_add (negsuc a) (pos b) = omega (arith, nat_abs_subℕ b (suc a))
nat_abs_add (negsuc a) (negsuc b) = omega arith

pub nat_abs_neg : (x : ℤ) → nat_abs (neg_ℤ x) ≡ nat_abs x
nat_abs_neg (pos zero) = refl
nat_abs_neg (pos (suc n)) = refl
nat_abs_neg (negsuc n) = refl

pub nat_abs_sub : (x y : ℤ) → nat_abs (x -ℤ y) ≤ nat_abs x + nat_abs y
nat_abs_sub x y = omega (arith, nat_abs_add x (neg_ℤ y), nat_abs_neg y)

neg_pos : (n : ℕ) → nat_abs (neg_ℤ (pos n)) ≡ n
neg_pos n = nat_abs_neg (pos n)

pub nat_abs_mul : (x y : ℤ) → nat_abs (x *ℤ y) ≡ nat_abs x * nat_abs y
nat_abs_mul (pos a) (pos b) = refl
nat_abs_mul (pos a) (negsuc b) = neg_pos (a * suc b)
nat_abs_mul (negsuc a) (pos b) = neg_pos (suc a * b)
nat_abs_mul (negsuc a) (negsuc b) = refl

-- a product of two bounded numbers
pub nat_abs_times : (x y : ℤ) {A B : ℕ} → nat_abs x ≤ A → nat_abs y ≤ B → nat_abs (x *ℤ y) ≤ A * B
nat_abs_times x y hx hy = rw (nat_abs_mul x y) (mul-le-mul hx hy)

-- ---- numbers that aren't 0

pub zero_size : (x : ℤ) → nat_abs x ≡ 0 → x ≡ pos 0
zero_size (pos n) e = ap pos e
zero_size (negsuc n) e = absurd (omega arith)

pub sub_equal : (x y : ℤ) → x -ℤ y ≡ pos 0 → x ≡ y
sub_equal x y z = sym (-ℤ-+ℤ_cancel x y) ∙ ap (λ (d : ℤ). d +ℤ y) z ∙ +ℤ_idl y

pub nonzero-false : (x : ℤ) → nonzero x ≡ false → x ≡ pos 0
nonzero-false x e = zero_size x (omega (arith, ltb-false 0 (nat_abs x) e))

-- a product isn't 0 exactly where neither factor is
pub nonzero-times : (n : ℕ) (x : ℤ) → nonzero (pos n *ℤ x) ≡ (nonzero x && ltb 0 n)
nonzero-times n x = rw (nat_abs_mul (pos n) x) (by n (nat_abs x))
  where
    by : (m n : ℕ) → ltb 0 (m * n) ≡ (ltb 0 n && ltb 0 m)
    by zero zero = refl
    by zero (suc n) = rw (zero-mul (suc n), lt-ltb 0 (suc n) (omega arith))
    by (suc m) zero = rw (mul-zero (suc m))
    by (suc m) (suc n) =
        rw (lt-ltb 0 (suc n) (omega arith), lt-ltb 0 (suc m) (omega arith)) (lt-ltb 0 (suc m * suc n) (omega (arith, mul-suc (suc m) n)))

pub nat_abs_max0 : (x : ℤ) → nat_abs (max0 x) ≤ nat_abs x
nat_abs_max0 (pos n) = omega arith
nat_abs_max0 (negsuc n) = omega arith

-- a sum of n terms, each of size at most B
pub nat_abs_sum_to : (n B : ℕ) (g : ℕ → ℤ) → ((k : ℕ) → k < n → nat_abs (g k) ≤ B) → nat_abs (sum_to n g) ≤ B * n
unfolding sum_to
nat_abs_sum_to zero B g h = omega arith
nat_abs_sum_to (suc n) B g h = rw mul-suc (omega (arith, nat_abs_add (sum_to n g) (g n), nat_abs_sum_to n B g (λ k b. h k (omega arith)), h n (omega arith)))

pub nat_abs_sum_over : {A : Type 0} (B : ℕ) (g : A → ℤ) (xs : List A) → Each (λ x. nat_abs (g x) ≤ B) xs → nat_abs (sum_over_of xs g) ≤ B * length xs
unfolding sum_over_of
nat_abs_sum_over B g [] h = omega arith
nat_abs_sum_over B g (x ∷ xs) h = rw mul-suc (omega (arith, nat_abs_add (g x) (sum_over_of xs g), nat_abs_sum_over B g xs h.1, h.0))
