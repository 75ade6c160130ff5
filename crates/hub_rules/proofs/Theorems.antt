-- THE THEOREMS of hubs (document 02, paper 7), each of every hub that 11, 24 and 25 do not turn down. What they stand on is in Sharing.antt, Contracts.antt and
-- Listing.antt.
use mathlib.Core.Path.{◌≡◌}
use mathlib.Core.List.{List, Perm}
use Prim.Native.Nat.{ℕ}
use Rattle.integers.proofs.Division.{floor_mod-lt, floor_split}
use Rattle.tariff.specs.Units.{Factors, hub_weight}
use Rattle.hub_rules.specs.Hubs.{hub_sum, hub_quotient, hub_remainder, hub_contracts}
use Rattle.hub_rules.specs.Theorems.{Taken, MccExact, Near, FewOver, quantities, HubRows, places}
use Rattle.hub_rules.proofs.Sharing.{is-hub, weight_some, leftover-few, share-above, share-below, nothing_over}
use Rattle.hub_rules.proofs.Listing.{sum-free}
use Rattle.hub_rules.proofs.Contracts.{add_up, rows_of, rows-free}

-- "given as quotient rounded down and remainder", and nothing is lost
pub hub-mcc_exact : (f : Factors) (p ns ws : List ℕ) → MccExact f p ns ws
unfolding hub_quotient hub_remainder
hub-mcc_exact f p ns ws = record { whole = floor_split (hub_sum f p ns ws) hub_weight weight_some; small = floor_mod-lt (hub_sum f p ns ws) hub_weight weight_some }

module _ (n : ℕ) (ns ws : List ℕ) (hub : Taken n ns ws) where
  module _ (q : ℕ) where
    pub left-over_few : FewOver n ns ws q
    left-over_few = record { few = leftover-few n ns ws (is-hub n ns ws hub) q; to_remainders = nothing_over n ns ws (is-hub n ns ws hub) q }

    pub share-near : (m : ℕ) → Near n ns ws q m
    share-near m = record { not_above = share-above n ns ws (is-hub n ns ws hub) q m; not_below = share-below n ns ws (is-hub n ns ws hub) q m }

    module _ (kind period holder sink : ℕ) where
      -- "Quantities add up to the hub's"
      pub shares_add_up : quantities (hub_contracts kind period holder sink ns ws q n) ≡ q
      shares_add_up = add_up n ns ws (is-hub n ns ws hub) q kind period holder sink

      pub hub-rows : HubRows n sink q ns (hub_contracts kind period holder sink ns ws q n)
      hub-rows = rows_of n ns ws (is-hub n ns ws hub) q kind period holder sink

  -- the order of listing has no effect on the MCC or on the contracts
  module _ (ns' ws' : List ℕ) (hub' : Taken n ns' ws') (same : Perm (places ns ws) (places ns' ws')) where
    pub listing_free_mcc : (f : Factors) (p : List ℕ) → hub_sum f p ns ws ≡ hub_sum f p ns' ws'
    listing_free_mcc f p = sum-free f p ns ws ns' ws' same

    pub listing_free : (kind period holder sink q : ℕ) → hub_contracts kind period holder sink ns ws q n ≡ hub_contracts kind period holder sink ns' ws' q n
    listing_free = rows-free n ns ws ns' ws' (is-hub n ns ws hub) (is-hub n ns' ws' hub') same
