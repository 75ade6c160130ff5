-- What inner functions and proofs say of a hub that 11, 24 and 25 do not turn down, and its shares as the code finds them, among the listed nodes alone.
use Rattle.std.specs.Prelude.{◌≡◌, Bool, false, cond, ◌||◌, ◌&&◌, List, [], ◌∷◌, ℕ, ◌+◌, ◌-◌, ◌*◌, ◌/◌, ◌%◌, ◌≤◌, ◌<◌, leb, ltb, eqb, length}
use Rattle.lists.specs.Lists.{any_of}
use Rattle.tariff.specs.declared.contracts.Contract.{Contract}
use Rattle.tariff.specs.Units.{max_hub_nodes, hub_weight}
use Rattle.hub_rules.specs.Hubs.{sum_by_of, listed, twice, weight_of, contracts_below}

pub record IsHub (n : ℕ) (ns ws : List ℕ) : Type 0 where
  pub some_nodes : 0 < length ns
  pub few-nodes : length ns ≤ max_hub_nodes
  pub one_each : length ns ≡ length ws
  pub together : sum_by_of (λ w. w) ws ≡ hub_weight
  pub low : any_of (leb n) ns ≡ false
  pub once : twice ns ≡ false

-- ---- shares among the listed nodes: those of largest_remainders among all (proofs/Sharing.antt)

-- rounded down, and what that cuts off, in parts of 100,000
unfoldable pub down_share : ℕ → ℕ → ℕ
down_share q w = q * w / hub_weight

unfoldable pub share_rest : ℕ → ℕ → ℕ
share_rest q w = q * w % hub_weight

unfoldable pub left_over : ℕ → List ℕ → ℕ
left_over q ws = q - sum_by_of (down_share q) ws

-- x with remainder s comes before m with remainder r
abbrev pub is_ahead : ℕ → ℕ → ℕ → ℕ → Bool
is_ahead s x r m = ltb r s || (eqb s r && ltb x m)

-- the sum of g x w over the nodes and the weights beside them
unfoldable pub add_pairs : List ℕ → List ℕ → (ℕ → ℕ → ℕ) → ℕ
add_pairs [] ws g = 0
add_pairs (x ∷ ns) [] g = 0
add_pairs (x ∷ ns) (w ∷ ws) g = g x w + add_pairs ns ws g

-- how many listed nodes come before m
unfoldable pub ahead_of : List ℕ → List ℕ → ℕ → ℕ → ℕ
ahead_of ns ws q m = add_pairs ns ws (λ x w. cond (is_ahead (share_rest q w) x (share_rest q (weight_of ns ws m)) m) 1 0)

-- one of the thousandths left over goes to a node where fewer nodes than that come before it
unfoldable pub listed_share : List ℕ → List ℕ → ℕ → ℕ → ℕ
listed_share ns ws q m = cond (listed ns m) (down_share q (weight_of ns ws m) + cond (ltb (ahead_of ns ws q m) (left_over q ws)) 1 0) 0

abbrev pub listed_contracts : (kind period holder sink : ℕ) → List ℕ → List ℕ → ℕ → ℕ → List Contract
listed_contracts kind period holder sink ns ws q = contracts_below kind period holder sink (listed_share ns ws q)
