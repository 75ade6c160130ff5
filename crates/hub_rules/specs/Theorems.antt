-- What paper 7 says of hubs, as predicates: proved of every hub that 11, 24 and 25 do not turn down.
use Rattle.std.specs.Prelude.{◌≡◌, false, List, [], ◌∷◌, ℕ, ◌+◌, ◌*◌, ◌≤◌, ◌<◌, length, pos, ◌+ℤ◌, ◌*ℤ◌}
use Rattle.lists.specs.Lists.{Each}
use Rattle.tariff.specs.declared.contracts.Contract.{Contract}
use Rattle.tariff.specs.ContractRules.{InRange}
use Rattle.tariff.specs.Units.{Factors, max_quantity, max_hub_nodes, hub_weight}
use Rattle.largest_remainders.specs.Shares.{whole, rest, leftover, share}
use Rattle.hub_rules.specs.Hubs.{sum_by_of, hub_shape, hub_twice, hub_sum, hub_quotient, hub_remainder, weight_of}
use Rattle.tariff.specs.Checks.{listed_nodes}

-- a hub that is not turned down, of nodes below n
pub record Taken (n : ℕ) (ns ws : List ℕ) : Type 0 where
  pub below : (listed_nodes n ns).fails ≡ false
  pub shaped : (hub_shape ns ws).fails ≡ false
  pub once : (hub_twice ns).fails ≡ false

-- quotient × 100,000 + remainder is the sum of weight × MCC, and the remainder is 0 to 99,999
pub record MccExact (f : Factors) (p ns ws : List ℕ) : Type 0 where
  pub whole : hub_quotient f p ns ws *ℤ pos hub_weight +ℤ pos (hub_remainder f p ns ws) ≡ hub_sum f p ns ws
  pub small : hub_remainder f p ns ws < hub_weight

-- a share is less than a thousandth from its exact proportion, both times 100,000
pub record Near (n : ℕ) (ns ws : List ℕ) (q m : ℕ) : Type 0 where
  pub not_above : hub_weight * share n (weight_of ns ws) q m < q * weight_of ns ws m + hub_weight
  pub not_below : q * weight_of ns ws m < hub_weight * share n (weight_of ns ws) q m + hub_weight

-- fewer thousandths are left over than the hub has nodes, and a node that rounding cuts nothing off is given none
pub record FewOver (n : ℕ) (ns ws : List ℕ) (q : ℕ) : Type 0 where
  pub few : leftover n (weight_of ns ws) q < length ns
  pub to_remainders : (m : ℕ) → rest n (weight_of ns ws) q m ≡ 0 → share n (weight_of ns ws) q m ≡ whole n (weight_of ns ws) q m

-- the quantities of contracts together
abbrev pub quantities : List Contract → ℕ
quantities = sum_by_of (λ (c : Contract). c.quantity.0)

-- sources strictly ascending
unfoldable pub Ascending : List Contract → Type 0
Ascending [] = Unit {0}
Ascending (c ∷ cs) = Each (λ (d : Contract). c.source < d.source) cs × Ascending cs

-- the contracts of a hub: by node number, each of 1 to q thousandths, no more than the hub's nodes, in range where the sink and q are
pub record HubRows (n sink q : ℕ) (ns : List ℕ) (cs : List Contract) : Type 0 where
  pub ascending : Ascending cs
  pub sized : Each (λ (c : Contract). (0 < c.quantity.0) × (c.quantity.0 ≤ q)) cs
  pub no_more : length cs ≤ length ns
  pub at-most_32 : length cs ≤ max_hub_nodes
  pub in_range : sink < n → q ≤ max_quantity → Each (InRange n) cs

-- the nodes, each with the weight beside it
unfoldable pub places : List ℕ → List ℕ → List (ℕ × ℕ)
places [] ws = []
places (x ∷ ns) [] = []
places (x ∷ ns) (w ∷ ws) = (x, w) ∷ places ns ws
