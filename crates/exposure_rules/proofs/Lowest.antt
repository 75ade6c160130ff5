-- Of the sets of overloaded constraints that cost the most, the one found is the least number, bit k for constraint k.
use mathlib.Core.Path.{◌≡◌, refl, sym, ap, ◌∙◌}
use mathlib.Core.Bool.{Bool, true, false, cond}
use mathlib.Core.List.{List}
use Prim.Native.Nat.{ℕ, ◌^◌, ◌≤◌, ◌<◌}
use native.Mathlib.Nat.{le_trans, le_of_eq}
use lib.Dec.{ltb}
use lib.IntN.{ℤ}
use Rattle.lists.specs.Sets.{set_of, count_of}
use Rattle.lists.proofs.Sets.{set-cong}
use Rattle.tariff.specs.declared.contracts.Contract.{Contract}
use Rattle.tariff.specs.declared.processes.Process.{Process}
use Rattle.tariff.specs.Units.{Grid, price, max_price}
use Rattle.tariff.specs.Feasibility.{overloaded, overload_count}
use Rattle.tariff.specs.Shortfall.{shortfall}
use Rattle.exposure_rules.specs.Exposure.{highest_where, in_set, set_prices, worst_set}
use Rattle.exposure_rules.specs.Theorems.{priced_on}
use Rattle.exposure_rules.proofs.Plain.{largest_lowest}
use Rattle.exposure_rules.proofs.Scaling.{highest_at}
use Rattle.exposure_rules.proofs.Sets.{pack, pack_small, pack_chooses, tried}
use Rattle.exposure_rules.proofs.Numbers.{set-grows}

-- the constraints that have a price are those chosen
pub priced-on : (K : ℕ) (chosen : ℕ → Bool) → priced_on K (highest_where K chosen) ≡ set_of K chosen
unfolding priced_on
priced-on K chosen = set-cong K (λ (k : ℕ). ltb 0 (price (highest_where K chosen) k)) chosen (λ k h. ap (ltb 0) (highest_at K chosen k h) ∙ by (chosen k))
  where
    by : (b : Bool) → ltb 0 (cond b max_price 0) ≡ b
    by true = refl
    by false = refl

module _ (g : Grid) (process : Process) (cs : List Contract) where
  abbrev K : ℕ
  K = g.factors.constraints

  abbrev over : ℕ → Bool
  over = overloaded g process cs

  abbrev cost : ℕ → ℤ
  cost m = shortfall g process cs (set_prices g process cs m)

  module _ (chosen : ℕ → Bool) (only : (j : ℕ) → j < K → chosen j ≡ true → over j ≡ true)
      (same : shortfall g process cs (highest_where K chosen) ≡ cost (worst_set g process cs)) where
    -- the number that the set chosen is tried under
    abbrev number : ℕ
    number = pack over chosen 0 K

    not_before : worst_set g process cs ≤ number
    unfolding worst_set overload_count
    not_before = largest_lowest (2 ^ count_of K over) cost number (pack_small over chosen K)
        (ap (shortfall g process cs) (sym (tried g process cs chosen only)) ∙ same)

    grown : set_of K (in_set g process cs (worst_set g process cs)) ≤ set_of K (in_set g process cs number)
    unfolding in_set
    grown = set-grows over K (worst_set g process cs) number not_before (pack_small over chosen K)

    is-chosen : set_of K (in_set g process cs number) ≡ set_of K chosen
    unfolding in_set
    is-chosen = set-cong K (in_set g process cs number) chosen (λ j h. pack_chooses over chosen K j h (only j h))

    pub sets-lowest : priced_on K (set_prices g process cs (worst_set g process cs)) ≤ set_of K chosen
    unfolding set_prices
    sets-lowest = le_trans (le_of_eq (priced-on K (in_set g process cs (worst_set g process cs)))) (le_trans grown (le_of_eq is-chosen))
