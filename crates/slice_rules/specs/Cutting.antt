-- One way to cut a test of any size into slices that the entries take, which a program may follow: constraints 64 by 64, contracts 1,000 by 1,000, and for a
-- slice's nodes any list that has the ends of its contracts. Definitions only.
use Rattle.std.specs.Prelude.{◌≡◌, cond, List, [], ◌∷◌, map, ℕ, zero, suc, ◌+◌, ◌-◌, ◌*◌, ◌/◌, ◌%◌, min, ◌≤◌, ◌<◌, eqb, length, get_or, take, drop}
use Rattle.lists.specs.Lists.{list_to, Each}
use Rattle.tariff.specs.declared.contracts.Contract.{Contract}
use Rattle.tariff.specs.Units.{Factors, factor, Grid, max_nodes, max_constraints, max_contracts}
use Rattle.slice_rules.specs.Slices.{Block, Pairwise, Slice, Sliced}

-- block i of k constraints: 64 of them from number 64 × i on, fewer in the last
abbrev pub block_of : ℕ → ℕ → Block
block_of k i = record { size = min max_constraints (k - max_constraints * i); number = λ j. max_constraints * i + j }

-- nodes numbered anew: node n of the slice is the n-th of some nodes of the whole, with that one's factors on the block's constraints
unfoldable pub renumbered : Factors → Block → List ℕ → Factors
renumbered whole b nodes =
    record {
      nodes = length nodes;
      constraints = b.size;
      cells = list_to (length nodes * b.size) (λ x. factor whole (get_or nodes (x / b.size) 0) (b.number (x % b.size)));
    }

-- number m of the slice is node n of the whole
pub record At (nodes : List ℕ) (n m : ℕ) : Type 0 where
  pub below : m < length nodes
  pub is-node : get_or nodes m 0 ≡ n

-- contract d is contract c with its ends numbered so, for whatever holder
pub record Renumbered (nodes : List ℕ) (c d : Contract) : Type 0 where
  pub kind-same : d.kind ≡ c.kind
  pub period-same : d.period ≡ c.period
  pub quantity-same : d.quantity ≡ c.quantity
  pub source-at : At nodes c.source d.source
  pub sink-at : At nodes c.sink d.sink

-- where a node first stands in a list
unfoldable pub place_in : List ℕ → ℕ → ℕ
place_in [] n = 0
place_in (m ∷ ms) n = cond (eqb m n) 0 (suc (place_in ms n))

abbrev pub numbered_by : List ℕ → Contract → Contract
numbered_by nodes c =
    record {
      kind = c.kind;
      period = c.period;
      holder = c.holder;
      source = place_in nodes c.source;
      sink = place_in nodes c.sink;
      quantity = c.quantity;
    }

-- a list has a node, and both ends of a contract
pub record Has (nodes : List ℕ) (n : ℕ) : Type 0 where
  pub place : ℕ
  pub at_place : At nodes n place

abbrev pub HasEnds : List ℕ → Contract → Type 0
HasEnds nodes c = Has nodes c.source × Has nodes c.sink

-- no node stands in the list twice
abbrev pub Distinct : List ℕ → Type 0
Distinct nodes = (i j : ℕ) → i < length nodes → j < length nodes → get_or nodes i 0 ≡ get_or nodes j 0 → i ≡ j

-- contracts are numbered so by any list that has their ends; and by a list of distinct nodes in no other way
pub record EndsNumbered (nodes : List ℕ) : Type 0 where
  pub numbered : (cs : List Contract) → Each (HasEnds nodes) cs → Pairwise (Renumbered nodes) cs (map (numbered_by nodes) cs)
  pub only_so : Distinct nodes → (n m : ℕ) → At nodes n m → m ≡ place_in nodes n

-- the ends of contracts, two each
unfoldable pub ends_for : List Contract → List ℕ
ends_for [] = []
ends_for (c ∷ cs) = c.source ∷ c.sink ∷ ends_for cs

-- n lists of 1,000 contracts each, fewer in the last
unfoldable pub chunks : ℕ → List Contract → List (List Contract)
chunks zero cs = []
chunks (suc n) cs = take max_contracts cs ∷ chunks n (drop max_contracts cs)

-- a slice of sizes that the entries take: at most 64 constraints, 1 to 4,000 nodes, at most 1,000 contracts, and every end one of its nodes
pub record SliceFits (whole : Factors) (b : Block) (s : Slice whole b) : Type 0 where
  pub constraints-few : s.factors.constraints ≤ max_constraints
  pub constraints-are : s.factors.constraints ≡ b.size
  pub nodes-some : 0 < s.factors.nodes
  pub nodes-few : s.factors.nodes ≤ max_nodes
  pub contracts-few : length s.book ≤ max_contracts
  pub ends-below : Each (λ (c : Contract). (c.source < s.factors.nodes) × (c.sink < s.factors.nodes)) s.book

-- every test has such slices
pub record CanBeSliced (g : Grid) (book : List Contract) : Type 0 where
  pub sliced : Sliced g book
  pub all_fit : (i : ℕ) → Each (SliceFits g.factors (sliced.cut.block i)) (sliced.slices i)
