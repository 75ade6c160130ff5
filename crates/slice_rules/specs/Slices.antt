-- A test of any size in slices: the constraints in blocks, and for each block the contracts in small books over small tables of factors. Definitions only.
use Rattle.std.specs.Prelude.{◌≡◌, ℕ, ◌<◌, ℤ}
use mathlib.Core.List.{List, [], ◌∷◌, flat_map}
use Rattle.integers.specs.Sums.{sum_over_of}
use Rattle.tariff.specs.declared.contracts.Contract.{Contract}
use Rattle.tariff.specs.declared.contracts.Period.{Period}
use Rattle.tariff.specs.Units.{Factors, factor, Grid, limit}
use Rattle.tariff.specs.ContractRules.{of_period}
use Rattle.tariff.specs.Feasibility.{total_flow}
use Rattle.order_rules.specs.Reordering.{Reordered}

-- a block of a grid's constraints: its constraint j is the grid's constraint `number j`
pub record Block : Type 0 where
  pub size : ℕ
  pub number : ℕ → ℕ

-- Contract d over a slice's factors stands for contract c of the whole: kind, period and quantity are the same, and each end has the same factors on the
-- block's constraints, whatever its number. Holders play no part.
pub record StandsFor (whole : Factors) (b : Block) (slice : Factors) (c d : Contract) : Type 0 where
  pub kind-same : d.kind ≡ c.kind
  pub period-same : d.period ≡ c.period
  pub quantity-same : d.quantity ≡ c.quantity
  pub source-same : (j : ℕ) → j < b.size → factor slice d.source j ≡ factor whole c.source (b.number j)
  pub sink-same : (j : ℕ) → j < b.size → factor slice d.sink j ≡ factor whole c.sink (b.number j)

-- one for one, in order
abbrev pub Pairwise : (Contract → Contract → Type 0) → List Contract → List Contract → Type 0
Pairwise R [] [] = Unit
Pairwise R [] (d ∷ ds) = ⊥
Pairwise R (c ∷ cs) [] = ⊥
Pairwise R (c ∷ cs) (d ∷ ds) = R c d × Pairwise R cs ds

abbrev pub AllStandFor : Factors → Block → Factors → List Contract → List Contract → Type 0
AllStandFor whole b slice cs ds = Pairwise (StandsFor whole b slice) cs ds

-- a slice of a block: some of the whole's contracts, and a small book over a small table of factors that stands for them
pub record Slice (whole : Factors) (b : Block) : Type 0 where
  pub contracts : List Contract
  pub factors : Factors
  pub book : List Contract
  pub stands : AllStandFor whole b factors contracts book

-- where constraint k stands in the first n of some blocks
pub record Place (n : ℕ) (block : ℕ → Block) (k : ℕ) : Type 0 where
  pub in_block : ℕ
  pub at : ℕ
  pub block-below : in_block < n
  pub at-below : at < (block in_block).size
  pub is-there : (block in_block).number at ≡ k

-- A grid's constraints cut into blocks: every constraint is in one, and none but the grid's is. (In two is no harm.)
pub record Cut (constraints : ℕ) : Type 0 where
  pub blocks : ℕ
  pub block : ℕ → Block
  pub inside : (i j : ℕ) → i < blocks → j < (block i).size → (block i).number j < constraints
  pub covers : (k : ℕ) → k < constraints → Place blocks block k

-- A whole test in slices: for each block its limits, and slices that hold together the whole book's contracts, in any order.
pub record Sliced (g : Grid) (book : List Contract) : Type 0 where
  pub cut : Cut g.factors.constraints
  pub limits : ℕ → List ℕ
  pub limits-same : (i j : ℕ) → i < cut.blocks → j < (cut.block i).size → limit (limits i) j ≡ limit g.limits ((cut.block i).number j)
  pub slices : (i : ℕ) → List (Slice g.factors (cut.block i))
  pub all-contracts : (i : ℕ) → i < cut.blocks → Reordered (flat_map (λ (s : Slice g.factors (cut.block i)). s.contracts) (slices i)) book

-- the flow of slices on constraint j of their block: that of each small book over its own factors, added up
unfoldable pub slices_flow : {whole : Factors} {b : Block} → Period → List (Slice whole b) → ℕ → ℤ
slices_flow {whole} {b} t slices j = sum_over_of slices (λ (s : Slice whole b). total_flow s.factors (of_period t s.book) j)
