-- Document 02, paper 7: trading hubs. ns are a hub's nodes, ws the weights beside them, q a quantity. Definitions only.
use Rattle.std.specs.Prelude.{Bool, false, cond, not, ◌||◌, List, [], ◌∷◌, ◌++◌, ℕ, zero, suc, ◌+◌, ltb, eqb, length, ℤ, pos, ◌+ℤ◌, ◌*ℤ◌}
use Rattle.lists.specs.Lists.{any_of}
use Rattle.integers.specs.Division.{floor_div, floor_mod}
use Rattle.largest_remainders.specs.Shares.{share}
use Rattle.tariff.specs.declared.contracts.Contract.{Contract}
use Rattle.tariff.specs.declared.refusals.Refusal.TheVariants.{HubShape, HubNodeTwice}
use Rattle.tariff.specs.Refusals.{Check}
use Rattle.tariff.specs.Units.{Factors, max_hub_nodes, hub_weight}
use Rattle.tariff.specs.ContractRules.{kind_of, period_of}
use Rattle.tariff.specs.Settlement.{mcc}

-- the sum of f x over the x of a list
unfoldable pub sum_by_of : {A : Type 0} → (A → ℕ) → List A → ℕ
sum_by_of f [] = 0
sum_by_of f (x ∷ xs) = f x + sum_by_of f xs

-- ---- what is turned down

abbrev pub weight_bad_of : ℕ → Bool
weight_bad_of w = eqb w 0 || ltb hub_weight w

-- 24: "a hub not of 1 to 32 nodes, unequal lists, or weights that don't total 100,000 or leave their range"
abbrev pub shape_bad_of : List ℕ → List ℕ → Bool
shape_bad_of ns ws =
    eqb (length ns) 0
    || (ltb max_hub_nodes (length ns) || (not (eqb (length ns) (length ws)) || (any_of weight_bad_of ws || not (eqb (sum_by_of (λ w. w) ws) hub_weight))))

abbrev pub hub_shape : List ℕ → List ℕ → Check
hub_shape ns ws = record { fails = shape_bad_of ns ws; refusal = HubShape }

abbrev pub listed : List ℕ → ℕ → Bool
listed ns m = any_of (λ x. eqb x m) ns

-- 25: "a node listed twice"
unfoldable pub twice : List ℕ → Bool
twice [] = false
twice (x ∷ ns) = listed ns x || twice ns

abbrev pub hub_twice : List ℕ → Check
hub_twice ns = record { fails = twice ns; refusal = HubNodeTwice }

-- ---- the MCC of a hub

-- "the weighted sum of its nodes' MCCs over 100,000, given as quotient rounded down and remainder" (002 part E)
module _ (f : Factors) (p : List ℕ) where
  unfoldable pub hub_sum : List ℕ → List ℕ → ℤ
  hub_sum [] ws = pos 0
  hub_sum (x ∷ ns) [] = pos 0
  hub_sum (x ∷ ns) (w ∷ ws) = pos w *ℤ mcc f p x +ℤ hub_sum ns ws

  unfoldable pub hub_quotient : List ℕ → List ℕ → ℤ
  hub_quotient ns ws = floor_div (hub_sum ns ws) hub_weight

  unfoldable pub hub_remainder : List ℕ → List ℕ → ℕ
  hub_remainder ns ws = floor_mod (hub_sum ns ws) hub_weight

-- ---- shares (000, 36.8.4.1)

-- the weight beside a node's first place; 0 for one that is not listed
unfoldable pub weight_of : List ℕ → List ℕ → ℕ → ℕ
weight_of [] ws m = 0
weight_of (x ∷ ns) [] m = 0
weight_of (x ∷ ns) (w ∷ ws) m = cond (eqb x m) w (weight_of ns ws m)

-- ---- the contracts of a hub

module _ (kind period holder sink : ℕ) where
  abbrev pub hub_contract : ℕ → ℕ → Contract
  hub_contract m quantity =
      record { kind = kind_of kind; period = period_of period; holder = holder; source = m; sink = sink; quantity = record { 0 = quantity } }

  -- "empty shares vanish; the rest join .. by node number": for the nodes below n in their order, the contract from the node, where its share is above 0
  unfoldable pub contracts_below : (ℕ → ℕ) → ℕ → List Contract
  contracts_below shares zero = []
  contracts_below shares (suc m) = contracts_below shares m ++ cond (ltb 0 (shares m)) (hub_contract m (shares m) ∷ []) []

  -- "shares rounded down and leftover thousandths given to the largest remainders, then the lower node": of n nodes, each by its weight
  unfoldable pub hub_contracts : List ℕ → List ℕ → ℕ → ℕ → List Contract
  hub_contracts ns ws q n = contracts_below (share n (weight_of ns ws) q) n
