-- The order of listing: sums over a hub's places, and so the weight of each node, are kept by a permutation.
use mathlib.Core.Path.{◌≡◌, refl, sym, ap, ap₂, subst, ◌∙◌}
use mathlib.Core.Logic.{∥∥₁_elim}
use mathlib.Core.Bool.{Bool, true, false, cond}
use mathlib.Core.List.{List, [], ◌∷◌, Perm, Permᴰ}
use Prim.Native.Nat.{ℕ, ◌+◌}
use native.Mathlib.Nat.{ℕ_set}
use native.Mathlib.Omega.{arith}
use lib.Dec.{T, eqb, eqb→eq}
use lib.IntN.{ℤ, pos, ◌+ℤ◌, ◌*ℤ◌, ℤ_set}
use Rattle.integers.specs.Sums.{sum_over_of}
use Rattle.integers.proofs.Linear.{+ℤ-left_comm}
use Rattle.tariff.specs.Units.{Factors}
use Rattle.tariff.specs.Settlement.{mcc}
use Rattle.lists.proofs.Search.{neither}
use Rattle.hub_rules.specs.Hubs.{listed, twice, hub_sum, weight_of}
use Rattle.hub_rules.specs.Inner.{add_pairs}
use Rattle.hub_rules.specs.Theorems.{places}
use Rattle.hub_rules.proofs.Nodes.{unlisted}

-- ---- sums of integers

module _ (f : ℕ × ℕ → ℤ) where
  sum_by : {xs ys : List (ℕ × ℕ)} → Permᴰ xs ys → sum_over_of xs f ≡ sum_over_of ys f
  unfolding sum_over_of
  sum_by Permᴰ.nil = refl
  sum_by (Permᴰ.cons e d) = ap₂ (λ (x : ℕ × ℕ) (z : ℤ). f x +ℤ z) e (sum_by d)
  sum_by (Permᴰ.swap {a} {b} {l = l} e₁ e₂) = +ℤ-left_comm (f a) (f b) (sum_over_of l f) ∙ ap₂ (λ (x y : ℕ × ℕ). f x +ℤ (f y +ℤ sum_over_of l f)) e₂ e₁
  sum_by (Permᴰ.trans d₁ d₂) = sum_by d₁ ∙ sum_by d₂

module _ (f : Factors) (p : List ℕ) where
  weighted : ℕ × ℕ → ℤ
  weighted z = pos z.1 *ℤ mcc f p z.0

  sum-places : (ns ws : List ℕ) → hub_sum f p ns ws ≡ sum_over_of (places ns ws) weighted
  unfolding hub_sum places sum_over_of weighted
  sum-places [] ws = refl
  sum-places (x ∷ ns) [] = refl
  sum-places (x ∷ ns) (w ∷ ws) = ap (λ (z : ℤ). pos w *ℤ mcc f p x +ℤ z) (sum-places ns ws)

  pub sum-free : (ns ws ns' ws' : List ℕ) → Perm (places ns ws) (places ns' ws') → hub_sum f p ns ws ≡ hub_sum f p ns' ws'
  sum-free ns ws ns' ws' perm = ∥∥₁_elim perm (ℤ_set (hub_sum f p ns ws) (hub_sum f p ns' ws')) (λ d. sum-places ns ws ∙ sum_by weighted d ∙ sym (sum-places ns' ws'))

-- ---- sums of naturals

module _ (f : ℕ → ℕ → ℕ) where
  add_places : List (ℕ × ℕ) → ℕ
  add_places [] = 0
  add_places (z ∷ zs) = f z.0 z.1 + add_places zs

  add_by : {xs ys : List (ℕ × ℕ)} → Permᴰ xs ys → add_places xs ≡ add_places ys
  unfolding add_places
  add_by Permᴰ.nil = refl
  add_by (Permᴰ.cons e d) = ap₂ (λ (x : ℕ × ℕ) (z : ℕ). f x.0 x.1 + z) e (add_by d)
  add_by (Permᴰ.swap {a} {b} {l = l} e₁ e₂) =
      turn (f a.0 a.1) (f b.0 b.1) (add_places l) ∙ ap₂ (λ (x y : ℕ × ℕ). f x.0 x.1 + (f y.0 y.1 + add_places l)) e₂ e₁
    where
      turn : (x y z : ℕ) → x + (y + z) ≡ y + (x + z)
      turn x y z = omega arith
  add_by (Permᴰ.trans d₁ d₂) = add_by d₁ ∙ add_by d₂

  pairs-places : (ns ws : List ℕ) → add_pairs ns ws f ≡ add_places (places ns ws)
  unfolding add_pairs places add_places
  pairs-places [] ws = refl
  pairs-places (x ∷ ns) [] = refl
  pairs-places (x ∷ ns) (w ∷ ws) = ap (λ (z : ℕ). f x w + z) (pairs-places ns ws)

  pub pairs-free : (ns ws ns' ws' : List ℕ) → Perm (places ns ws) (places ns' ws') → add_pairs ns ws f ≡ add_pairs ns' ws' f
  pairs-free ns ws ns' ws' perm = ∥∥₁_elim perm (ℕ_set (add_pairs ns ws f) (add_pairs ns' ws' f)) (λ d. pairs-places ns ws ∙ add_by d ∙ sym (pairs-places ns' ws'))

-- ---- the weight of each node

-- where no node is listed twice, its weight is the sum over its places
pub weight_sum : (ns ws : List ℕ) (m : ℕ) → twice ns ≡ false → weight_of ns ws m ≡ add_pairs ns ws (λ x w. cond (eqb x m) w 0)
unfolding twice weight_of add_pairs
weight_sum [] ws m once = refl
weight_sum (x ∷ ns) [] m once = refl
weight_sum (x ∷ ns) (w ∷ ws) m once = by (eqb x m) (eqb→eq x m) (weight_sum ns ws m (neither (listed ns x) (twice ns) once).1)
  where
    by : (b : Bool) → (T b → x ≡ m) → weight_of ns ws m ≡ add_pairs ns ws (λ x w. cond (eqb x m) w 0) → cond b w (weight_of ns ws m) ≡ cond b w 0 + add_pairs ns ws (λ x w. cond (eqb x m) w 0)
    by true e r = omega (arith, subst (λ (y : ℕ). weight_of ns ws y ≡ 0) (e tt) (unlisted ns ws x (neither (listed ns x) (twice ns) once).0))
    by false e r = omega arith

pub weights_free : (ns ws ns' ws' : List ℕ) → twice ns ≡ false → twice ns' ≡ false → Perm (places ns ws) (places ns' ws') → weight_of ns ws ≡ weight_of ns' ws'
weights_free ns ws ns' ws' o o' perm i m = (weight_sum ns ws m o ∙ pairs-free (λ x w. cond (eqb x m) w 0) ns ws ns' ws' perm ∙ sym (weight_sum ns' ws' m o')) i
