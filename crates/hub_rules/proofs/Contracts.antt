-- The contracts of a hub that is taken: how many, how large, in range; and the same for every listing of its nodes.
use mathlib.Core.Path.{◌≡◌, refl, sym, ap, subst, ◌∙◌}
use mathlib.Core.List.{List, Perm}
use Prim.Native.Nat.{ℕ, zero, suc, ◌≤◌, ◌<◌}
use native.Mathlib.Omega.{arith}
use lib.Dec.{T, ltb, ltb→lt, lt→ltb}
use lib.ListN.{length}
use Rattle.tariff.specs.ContractRules.{InRange}
use Rattle.largest_remainders.specs.Shares.{share}
use Rattle.largest_remainders.proofs.Counting.{bit, bit_le, add_to-mono}
use Rattle.largest_remainders.proofs.Theorems.{no_weight}
use Rattle.hub_rules.specs.Hubs.{weight_of, contracts_below, hub_contracts}
use Rattle.hub_rules.specs.Theorems.{quantities, HubRows, places}
use Rattle.hub_rules.specs.Inner.{IsHub, listed_share, listed_contracts}
use Rattle.hub_rules.proofs.Nodes.{nodes-pairs, pairs-length}
use Rattle.hub_rules.proofs.Sharing.{total-some, share-is, shares_sum}
use Rattle.hub_rules.proofs.Listing.{weights_free}
use Rattle.hub_rules.proofs.Rows.{add_to-term, rows-sum, rows-every, rows-ascending, rows-length, rows_same}

module _ (n : ℕ) (ns ws : List ℕ) (hub : IsHub n ns ws) (q : ℕ) where
  pub share-most : (m : ℕ) → m < n → listed_share ns ws q m ≤ q
  share-most m b = omega (arith, add_to-term n m (listed_share ns ws q) b, shares_sum n ns ws hub q)

  -- a node with a share has a weight
  weighed : (m : ℕ) → 0 < listed_share ns ws q m → T (ltb 0 (weight_of ns ws m))
  weighed m h = by (weight_of ns ws m) refl
    where
      by : (w : ℕ) → weight_of ns ws m ≡ w → T (ltb 0 w)
      by zero e = absurd (omega (arith, no_weight n (weight_of ns ws) q (total-some n ns ws hub q) m e, share-is n ns ws hub q m))
      by (suc w) e = lt→ltb 0 (suc w) (omega arith)

  module _ (kind period holder sink : ℕ) where
    pub rows_few : length (listed_contracts kind period holder sink ns ws q n) ≤ length ns
    rows_few =
        omega (
          arith,
          rows-length kind period holder sink ns ws q n,
          add_to-mono n {f = λ m. bit (ltb 0 (listed_share ns ws q m))} {g = λ m. bit (ltb 0 (weight_of ns ws m))}
              (λ m b. bit_le (ltb 0 (listed_share ns ws q m)) (ltb 0 (weight_of ns ws m)) (λ t. weighed m (ltb→lt 0 (listed_share ns ws q m) t))),
          nodes-pairs n ns ws hub.once hub.low (λ m w. bit (ltb 0 w)) (λ m. refl),
          pairs-length ns ws (λ x w. ltb 0 w),
        )

    pub contracts-are : hub_contracts kind period holder sink ns ws q n ≡ listed_contracts kind period holder sink ns ws q n
    unfolding hub_contracts
    contracts-are = sym (rows_same kind period holder sink ns ws q (share n (weight_of ns ws) q) n (λ m b. share-is n ns ws hub q m))

    pub add_up : quantities (hub_contracts kind period holder sink ns ws q n) ≡ q
    add_up = ap quantities contracts-are ∙ rows-sum kind period holder sink ns ws q n ∙ shares_sum n ns ws hub q

    listed-rows : HubRows n sink q ns (listed_contracts kind period holder sink ns ws q n)
    listed-rows =
        record {
          ascending = rows-ascending kind period holder sink ns ws q n;
          sized = rows-every kind period holder sink ns ws q (λ c. (0 < c.quantity.0) × (c.quantity.0 ≤ q)) n (λ m b p. (p, share-most m b));
          no_more = rows_few;
          at-most_32 = omega (arith, rows_few, hub.few-nodes);
          in_range = λ s t. rows-every kind period holder sink ns ws q (InRange n) n (λ m b p. record { source-below = b; sink-below = s; quantity-sized = omega (arith, share-most m b) });
        }

    pub rows_of : HubRows n sink q ns (hub_contracts kind period holder sink ns ws q n)
    rows_of = subst (HubRows n sink q ns) (sym contracts-are) listed-rows

-- two listings of the same pairs
pub rows-free : (n : ℕ) (ns ws ns' ws' : List ℕ) → IsHub n ns ws → IsHub n ns' ws' → Perm (places ns ws) (places ns' ws')
    → (kind period holder sink q : ℕ) → hub_contracts kind period holder sink ns ws q n ≡ hub_contracts kind period holder sink ns' ws' q n
unfolding hub_contracts
rows-free n ns ws ns' ws' hub hub' perm kind period holder sink q =
    ap (λ (weight : ℕ → ℕ). contracts_below kind period holder sink (share n weight q) n) (weights_free ns ws ns' ws' hub.once hub'.once perm)
