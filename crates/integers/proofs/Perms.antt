-- A sum does not depend on the order of what is added.
use mathlib.Core.Path.{◌≡◌, refl, sym, ap, ◌∙◌}
use mathlib.Core.List.Perm
use mathlib.Core.List.{List, [], ◌∷◌, foldr, Perm}
use lib.IntN.{ℤ, pos, ◌+ℤ◌, +ℤ_assoc, +ℤ_comm, ℤ_set}
use Rattle.integers.specs.Sums.{sum_over_of}

module _ {A : Type 0} (g : A → ℤ) where
  sum_over-foldr : (xs : List A) → sum_over_of xs g ≡ foldr (λ x z. g x +ℤ z) (pos 0) xs
  unfolding sum_over_of
  sum_over-foldr [] = refl
  sum_over-foldr (x ∷ xs) = ap (λ z. g x +ℤ z) (sum_over-foldr xs)

  swapped : (x y : A) (z : ℤ) → g x +ℤ (g y +ℤ z) ≡ g y +ℤ (g x +ℤ z)
  swapped x y z = sym (+ℤ_assoc (g x) (g y) z) ∙ ap (λ u. u +ℤ z) (+ℤ_comm (g x) (g y)) ∙ +ℤ_assoc (g y) (g x) z

  -- a permutation keeps the sum
  pub sum_over-perm : (xs ys : List A) → Perm xs ys → sum_over_of xs g ≡ sum_over_of ys g
  sum_over-perm xs ys p = sum_over-foldr xs ∙ Perm.foldr-eq ℤ_set (λ x z. g x +ℤ z) swapped p (pos 0) ∙ sym (sum_over-foldr ys)
