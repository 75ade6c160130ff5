-- Laws of `lowest_of`, from what f is at single numbers.
use mathlib.Core.Path.{◌≡◌, refl, ap}
use mathlib.Core.Bool.{Bool, true, false, cond}
use Prim.Native.Nat.{ℕ, zero, suc, ◌<◌}
use native.Mathlib.Omega.{arith}
use Rattle.lists.specs.Sets.{lowest_of}

-- m is the lowest that has it
pub lowest-is : (n : ℕ) (f : ℕ → Bool) (m : ℕ) → m < n → f m ≡ true → ((j : ℕ) → j < m → f j ≡ false) → lowest_of n f ≡ m
unfolding lowest_of
lowest-is zero f m h t least = absurd (omega arith)
lowest-is (suc n) f zero h t least = rw t
lowest-is (suc n) f (suc m) h t least = rw (least 0 (omega arith)) (ap suc (lowest-is n (λ k. f (suc k)) m (omega arith) t (λ j b. least (suc j) (omega arith))))

-- none has it
pub lowest-none : (n : ℕ) (f : ℕ → Bool) → ((j : ℕ) → j < n → f j ≡ false) → lowest_of n f ≡ n
unfolding lowest_of
lowest-none zero f h = refl
lowest-none (suc n) f h = rw (h 0 (omega arith)) (ap suc (lowest-none n (λ k. f (suc k)) (λ j b. h (suc j) (omega arith))))

-- a lowest that is below n has it
pub lowest-has : (n : ℕ) (f : ℕ → Bool) → lowest_of n f < n → f (lowest_of n f) ≡ true
unfolding lowest_of
lowest-has zero f h = absurd (omega arith)
lowest-has (suc n) f h = by (f 0) refl h (lowest-has n (λ k. f (suc k)))
  where
    by : (b : Bool) → f 0 ≡ b → cond b 0 (suc (lowest_of n (λ k. f (suc k)))) < suc n → (lowest_of n (λ k. f (suc k)) < n → f (suc (lowest_of n (λ k. f (suc k)))) ≡ true)
        → f (cond b 0 (suc (lowest_of n (λ k. f (suc k))))) ≡ true
    by true e l rest = e
    by false e l rest = rest (omega arith)

-- none below the lowest has it
pub lowest-least : (n : ℕ) (f : ℕ → Bool) (j : ℕ) → j < lowest_of n f → f j ≡ false
unfolding lowest_of
lowest-least zero f j h = absurd (omega arith)
lowest-least (suc n) f j h = by (f 0) refl j h (lowest-least n (λ k. f (suc k)))
  where
    by : (b : Bool) → f 0 ≡ b → (j : ℕ) → j < cond b 0 (suc (lowest_of n (λ k. f (suc k)))) → ((j : ℕ) → j < lowest_of n (λ k. f (suc k)) → f (suc j) ≡ false) → f j ≡ false
    by true e j l rest = absurd (omega arith)
    by false e zero l rest = e
    by false e (suc j) l rest = rest j (omega arith)
