-- The checks of a hub's MCC are those of an hour's tables, then the hub's; and what holds where none refuses.
use mathlib.Core.Path.{◌≡◌, refl, sym, ap, ◌∙◌}
use mathlib.Core.List.{List, [], ◌∷◌, ◌++◌}
use Prim.Native.Nat.{ℕ, ◌≤◌, ◌<◌}
use native.Mathlib.Omega.{arith}
use borrow.Author.Tests.{le-ltb}
use lib.ListN.{get_or}
use lib.IntN.{ℤ, pos, nat_abs}
use Rattle.tariff.specs.Refusals.{passed}
use Rattle.tariff.specs.declared.units.Mcc.{Mcc}
use Rattle.tariff.specs.Units.{hub_weight}
use Rattle.tariff.specs.Inner.{max_mcc}
use Rattle.tariff.specs.Refusals.{Check, first, given, answered}
use Rattle.tariff.specs.Checks.{short_table, listed_nodes}
use Rattle.tariff.proofs.Checks.{first_under, first_passes, passed_cons, passed_append, nodes-some_of}
use Rattle.tariff.proofs.Answers.{none-refuses, given-values}
use Rattle.tariff.proofs.Rounding.{floor_sized}
use Rattle.grid_tables.specs.Inner.{Hour, hour_table_checks}
use Rattle.grid_tables.proofs.Passing.{hour_tables, hour_of}
use Rattle.hour_mcc.proofs.Products.{node_sized}
use Rattle.hub_rules.specs.Hubs.{hub_shape, hub_twice, hub_sum, hub_quotient}
use Rattle.hub_rules.specs.Inner.{IsHub}
use Rattle.hub_rules.proofs.Sharing.{is-hub}
use Rattle.hub_rules.proofs.Theorems.{hub-mcc_exact}
use Rattle.hub_mcc.specs.FindHubMcc.{HubMccAnswer}
use Rattle.hub_mcc.specs.FindHubMcc.{hub_mcc_found, FindHubMccCall, hub_mcc_outcome, find_hub_mcc_checks, find_hub_mcc_checked, hub_factors, hub_prices}
use Rattle.hub_mcc.specs.FindHubMcc.{quotient_given, remainder_given, IsExact}
use Rattle.hub_mcc.proofs.Weighing.{sum-sized}

module _ (q : FindHubMccCall) where
  -- "as for all nodes": with as many cells for the answer as there are nodes
  abbrev pub all_nodes : List Check
  all_nodes = hour_table_checks q.nodes q.constraints 0 q.factors q.prices q.nodes

  abbrev pub the_hub : List Check
  the_hub = listed_nodes q.nodes q.hub-nodes ∷ hub_shape q.hub-nodes q.hub-weights ∷ hub_twice q.hub-nodes ∷ []

  -- period 0 is never refused, and those cells suffice
  pub as_for_all : first (all_nodes ++ the_hub) ≡ find_hub_mcc_checked q
  unfolding hour_table_checks find_hub_mcc_checks
  as_for_all =
      let room = first_passes (short_table q.nodes q.nodes) _ (le-ltb q.nodes q.nodes (omega arith)) in
      first_under _ _ _ (first_under _ _ _ (first_passes _ _ refl ∙ first_under _ _ _ (first_under _ _ _ room)))

  pub some_node : first all_nodes ≡ passed → 0 < q.nodes
  unfolding hour_table_checks
  some_node e = nodes-some_of q.nodes (passed_cons _ _ e).0

  pub ready : find_hub_mcc_checked q ≡ passed → Hour q.nodes q.constraints q.factors q.prices × IsHub q.nodes q.hub-nodes q.hub-weights
  ready e =
      let parts = passed_append all_nodes the_hub (as_for_all ∙ e) in
      let eleven = passed_cons _ _ parts.1 in
      let shape = passed_cons _ _ eleven.1 in
      let once = (passed_cons _ _ shape.1).0 in (
        hour_of (hour_tables q.nodes q.constraints 0 q.factors q.prices q.nodes parts.0),
        is-hub q.nodes q.hub-nodes q.hub-weights (record { below = eleven.0; shaped = shape.0; once = once }),
      )

  -- the figures given are exact
  pub given-exact : (quotient : ℤ) (remainder : ℕ) → quotient ≡ quotient_given q → remainder ≡ remainder_given q → IsExact q quotient remainder
  given-exact quotient remainder eq er = let e = hub-mcc_exact (hub_factors q) (hub_prices q) q.hub-nodes q.hub-weights in rw (eq, er) (e.whole, e.small)

  -- an MCC's size
  pub quotient_sized : find_hub_mcc_checked q ≡ passed → nat_abs (quotient_given q) ≤ max_mcc
  unfolding hub_quotient
  quotient_sized e =
      let r = ready e in
      let size = sum-sized (hub_factors q) (hub_prices q) (node_sized q.nodes q.constraints q.factors q.prices r.0) q.hub-nodes q.hub-weights r.1.low in
      floor_sized (hub_sum (hub_factors q) (hub_prices q) q.hub-nodes q.hub-weights) max_mcc hub_weight (omega arith) (omega (arith, size, r.1.together))

  module _ (answer : HubMccAnswer) (told : hub_mcc_outcome answer ≡ answered (find_hub_mcc_checked q) (quotient_given q ∷ pos (remainder_given q) ∷ [])) where
    module _ (quotient : Mcc) (remainder : ℕ) (found : answer ≡ hub_mcc_found quotient remainder) where
      pub outcome-given : given (quotient.0 ∷ pos remainder ∷ []) ≡ answered (find_hub_mcc_checked q) (quotient_given q ∷ pos (remainder_given q) ∷ [])
      outcome-given = sym (ap hub_mcc_outcome found) ∙ told

      pub quotient_is : quotient.0 ≡ quotient_given q
      quotient_is = ap (λ (vs : List ℤ). get_or vs 0 (pos 0)) (given-values (find_hub_mcc_checked q) _ _ outcome-given)

      pub remainder_is : remainder ≡ remainder_given q
      remainder_is = ap (λ (vs : List ℤ). nat_abs (get_or vs 1 (pos 0))) (given-values (find_hub_mcc_checked q) _ _ outcome-given)

      pub found_exact : IsExact q quotient.0 remainder
      found_exact = given-exact quotient.0 remainder quotient_is remainder_is

      pub found_sized : nat_abs quotient.0 ≤ max_mcc
      found_sized = rw quotient_is (quotient_sized (none-refuses (find_hub_mcc_checked q) _ _ outcome-given))
