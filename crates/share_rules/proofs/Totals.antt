-- The total of the demands is the library's sum.
use mathlib.Core.Path.{◌≡◌, refl, sym, ap, ◌∙◌}
use mathlib.Core.List.{List, [], ◌∷◌}
use Prim.Native.Nat.{ℕ, zero, suc, ◌+◌}
use native.Mathlib.Omega.{arith}
use lib.ListN.{length}
use Rattle.std.specs.List.{sum}
use Rattle.std.proofs.lemmas.List.Sums.{sum_by-cons}
use Rattle.largest_remainders.specs.Ranks.{add_to}
use Rattle.largest_remainders.specs.Shares.{total_weight}
use Rattle.share_rules.specs.ShareBalance.{demand_of, total_demand}

-- the first term apart
add_to-cons : (n : ℕ) (f : ℕ → ℕ) → add_to (suc n) f ≡ f 0 + add_to n (λ i. f (suc i))
unfolding add_to
add_to-cons zero f = omega arith
add_to-cons (suc n) f = omega (arith, add_to-cons n f)

by-index : (ds : List ℕ) → sum ds ≡ add_to (length ds) (demand_of ds)
unfolding add_to
by-index [] = refl
by-index (d ∷ ds) =
    sum_by-cons (λ x. x) d ds ∙ ap (λ (z : ℕ). d + z) (by-index ds) ∙ sym (add_to-cons (length ds) (demand_of (d ∷ ds)))

pub summed : (ds : List ℕ) → sum ds ≡ total_demand ds
unfolding total_weight
summed ds = by-index ds
