-- What a reordering keeps of any list: its length, what holds of each element, and that a period's contracts are reordered with it.
use mathlib.Core.Path.{◌≡◌, refl, sym, ap, subst, subst₂, ◌∙◌}
use mathlib.Core.Logic.{ite}
use mathlib.Core.Bool.{Bool, true, false, cond, Bool-discrete}
use mathlib.Core.List.Perm
use mathlib.Core.List.{List, [], ◌∷◌, foldr, filter, Perm}
use mathlib.Core.List.{Permᴰ}
use Prim.Native.Nat.{suc}
use native.Mathlib.Nat.{ℕ_set}
use lib.ListN.{length}
use lib.IntN.{ℤ}
use Rattle.lists.specs.Lists.{Each}
use Rattle.integers.specs.Sums.{sum_over_of}
use Rattle.integers.proofs.Perms.{sum_over-perm}
use Rattle.tariff.specs.declared.contracts.Contract.{Contract}
use Rattle.tariff.specs.declared.contracts.Period.{Period}
use Rattle.tariff.specs.ContractRules.{same_period, of_period}

module _ {A : Type 0} where
  length-foldr : (xs : List A) → length xs ≡ foldr (λ x n. suc n) 0 xs
  length-foldr [] = refl
  length-foldr (x ∷ xs) = ap suc (length-foldr xs)

  pub length-perm : (xs ys : List A) → Perm xs ys → length xs ≡ length ys
  length-perm xs ys p = length-foldr xs ∙ Perm.foldr-eq ℕ_set (λ x n. suc n) (λ x y n. refl) p 0 ∙ sym (length-foldr ys)

  pub each-by : (P : A → Type 0) {xs ys : List A} → Permᴰ xs ys → Each P xs → Each P ys
  each-by P Permᴰ.nil h = h
  each-by P (Permᴰ.cons e d) h = (subst P e h.0, each-by P d h.1)
  each-by P (Permᴰ.swap e₁ e₂) h = (subst P e₂ h.1.0, (subst P e₁ h.0, h.1.1))
  each-by P (Permᴰ.trans d₁ d₂) h = each-by P d₂ (each-by P d₁ h)

-- ---- a period's contracts

module _ (t : Period) where
  of_period-filter : (cs : List Contract) → of_period t cs ≡ filter (λ (c : Contract). Bool-discrete (same_period c.period t) true) cs
  unfolding of_period
  of_period-filter [] = refl
  of_period-filter (c ∷ cs) = by (same_period c.period t) (of_period-filter cs)
    where
      by : (b : Bool) {xs ys : List Contract} → xs ≡ ys → cond b (c ∷ xs) xs ≡ ite {C = List Contract} (Bool-discrete b true) (c ∷ ys) ys
      by true e = ap (λ (l : List Contract). c ∷ l) e
      by false e = e

  -- a reordered book's contracts of a period are those of the book, reordered
  pub of_period-perm : (cs ds : List Contract) → Perm cs ds → Perm (of_period t cs) (of_period t ds)
  of_period-perm cs ds p =
      subst₂ (λ (xs ys : List Contract). Perm xs ys) (sym (of_period-filter cs)) (sym (of_period-filter ds))
      (Perm.filter (λ (c : Contract). Bool-discrete (same_period c.period t) true) p)

  -- any figure added over them is the same
  pub period-sum_perm : (w : Contract → ℤ) (cs ds : List Contract) → Perm cs ds → sum_over_of (of_period t cs) w ≡ sum_over_of (of_period t ds) w
  period-sum_perm w cs ds p = sum_over-perm w (of_period t cs) (of_period t ds) (of_period-perm cs ds p)
