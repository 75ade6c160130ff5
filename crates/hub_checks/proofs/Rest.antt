-- Laws of what is left of a list from a place on: a search, a sum, and nodes that stand again.
use mathlib.Core.Path.{◌≡◌, refl, sym, ap, ◌∙◌}
use mathlib.Core.Bool.{Bool, true, false, ◌||◌}
use mathlib.Core.List.{List, [], ◌∷◌}
use Rattle.std.specs.List.{list_any, sum}
use Rattle.std.proofs.lemmas.List.{take_all, length-drop}
use Rattle.std.proofs.lemmas.List.Sums.{sum_by-cons}
use Prim.Native.Nat.{ℕ, ◌+◌, ◌-◌, ◌*◌, ◌≤◌, ◌<◌}
use native.Mathlib.Numerals.{add-one}
use native.Mathlib.Omega.{arith}
use lib.ListN.{length, get_or, take, drop, drop_of_length-le}
use lib.Seq.{drop-cons}
use borrow.Author.Tests.{ltb-false}
use lib.Dec.{ltb, eqb}
use Rattle.lists.specs.Lists.{any_of}
use Rattle.lists.proofs.Search.{neither}
use Rattle.tariff.specs.Units.{hub_weight}
use Rattle.grid_tables.proofs.Cells.{searched}
use Rattle.hub_rules.specs.Hubs.{sum_by_of, weight_bad_of, listed, twice}

-- the element at a place, then the rest
pub rest-cons : {A : Type 0} (xs : List A) (i : ℕ) (d : A) → i < length xs → drop i xs ≡ get_or xs i d ∷ drop (i + 1) xs
rest-cons xs i d h = rw (add-one) (drop-cons xs i d h)

-- ---- a sum

pub sum-rest : (f : ℕ → ℕ) (ws : List ℕ) (i : ℕ) → i < length ws → sum_by_of f (drop i ws) ≡ f (get_or ws i 0) + sum_by_of f (drop (i + 1) ws)
unfolding sum_by_of
sum-rest f ws i h = ap (sum_by_of f) (rest-cons ws i 0 h)

-- the library's sum
pub summed : (ws : List ℕ) → sum ws ≡ sum_by_of (λ w. w) ws
unfolding sum_by_of
summed [] = refl
summed (w ∷ ws) = sum_by-cons (λ x. x) w ws ∙ ap (λ s. w + s) (summed ws)

-- weights in range
pub weights_small : (ws : List ℕ) → any_of weight_bad_of ws ≡ false → sum_by_of (λ w. w) ws ≤ hub_weight * length ws
unfolding any_of sum_by_of
weights_small [] e = omega arith
weights_small (w ∷ ws) e =
    let here = neither (weight_bad_of w) (any_of weight_bad_of ws) e in
    omega (arith, ltb-false hub_weight w (neither (eqb w 0) (ltb hub_weight w) here.0).1, weights_small ws here.1)

-- ---- a node that stands again

-- a node among those behind place i, as the library's search tells it
pub told-behind : (ns : List ℕ) (i m : ℕ) (b : Bool) → b ≡ list_any (λ y. eqb y m) (take (length ns - (i + 1)) (drop (i + 1) ns)) → listed (drop (i + 1) ns) m ≡ b
told-behind ns i m b e =
    sym (e ∙ searched _ _ ∙ ap (any_of (λ y. eqb y m)) (take_all (length ns - (i + 1)) (drop (i + 1) ns) (omega (arith, length-drop (i + 1) ns))))

module _ (ns : List ℕ) (i : ℕ) where
  twice-rest : i < length ns → twice (drop i ns) ≡ (listed (drop (i + 1) ns) (get_or ns i 0) || twice (drop (i + 1) ns))
  unfolding twice
  twice-rest h = ap twice (rest-cons ns i 0 h)

  pub twice-here : i < length ns → listed (drop (i + 1) ns) (get_or ns i 0) ≡ true → true ≡ twice (drop i ns)
  twice-here h e = sym (twice-rest h ∙ rw e)

  pub twice-later : i < length ns → listed (drop (i + 1) ns) (get_or ns i 0) ≡ false → twice (drop i ns) ≡ twice (drop (i + 1) ns)
  twice-later h e = twice-rest h ∙ rw e

  pub twice-over : length ns ≤ i → false ≡ twice (drop i ns)
  unfolding twice
  twice-over h = rw (drop_of_length-le ns h)
