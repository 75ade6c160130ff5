-- Records side by side: lists of fields that take S bits each. Record i stands S × i bits behind the first.
use mathlib.Core.Path.{◌≡◌, sym}
use mathlib.Core.List.{List, [], ◌∷◌, flat_map}
use Prim.Native.Nat.{ℕ, zero, suc, ◌+◌, ◌*◌, ◌<◌}
use native.Mathlib.Nat.{mul-zero, mul-suc}
use native.Mathlib.Omega.{arith}
use lib.ListN.{length, get_or}
use Rattle.lists.specs.Lists.{Each, list_to}
use Rattle.lists.proofs.Lists.{length-list_to, flat_map_last}
use Rattle.bits.specs.Fields.{Field, total_width}
use Rattle.bits.specs.Inner.{Fit, HoldsFields}
use Rattle.bits.proofs.Files.{total-append, fit_append, holds-append}

pub fit_records : {A : Type 0} (f : A → List Field) (P : A → Type 0) → ((x : A) → P x → Fit (f x)) → (xs : List A) → Each P xs → Fit (flat_map f xs)
unfolding flat_map
fit_records f P fit [] h = tt
fit_records f P fit (x ∷ xs) h = fit_append (f x) (flat_map f xs) (fit x h.0) (fit_records f P fit xs h.1)

module _ {A : Type 0} (f : A → List Field) (S : ℕ) (each : (x : A) → total_width (f x) ≡ S) where
  pub total-records : (xs : List A) → total_width (flat_map f xs) ≡ S * length xs
  unfolding flat_map
  total-records [] = sym (mul-zero S)
  total-records (x ∷ xs) = rw (total-append (f x) (flat_map f xs), each x) (omega (arith, total-records xs, mul-suc S (length xs)))

  -- where the records stand, record i stands
  pub record_stands : (xs : List A) (i : ℕ) (d : A) (s : List ℕ) (o a : ℕ) → i < length xs → a ≡ o + S * i → HoldsFields s o (flat_map f xs) → HoldsFields s a (f (get_or xs i d))
  unfolding flat_map
  record_stands [] i d s o a b e h = absurd (omega arith)
  record_stands (x ∷ xs) zero d s o a b e h = let z : a ≡ o = omega (arith, mul-zero S) in rw z ((holds-append s o (f x) (flat_map f xs)).0 h).0
  record_stands (x ∷ xs) (suc i) d s o a b e h =
      record_stands xs i d s (o + S) a (omega arith) (omega (arith, mul-suc S i)) (rw (each x) at ((holds-append s o (f x) (flat_map f xs)).0 h).1)

  -- and where each of n records stands, the records stand
  pub records_stand : (n : ℕ) (g : ℕ → A) (s : List ℕ) (o : ℕ) → ((i : ℕ) → i < n → HoldsFields s (o + S * i) (f (g i))) → HoldsFields s o (flat_map f (list_to n g))
  unfolding list_to flat_map
  records_stand zero g s o h = tt
  records_stand (suc n) g s o h =
      rw (flat_map_last f (list_to n g) (g n))
      ((holds-append s o (flat_map f (list_to n g)) (f (g n))).1 (records_stand n g s o (λ i b. h i (omega arith)), rw at (h n (omega arith))))
    where
      at : o + total_width (flat_map f (list_to n g)) ≡ o + S * n
      at = rw (total-records (list_to n g), length-list_to n g)
