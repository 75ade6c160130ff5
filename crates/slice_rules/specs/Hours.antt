-- An hour of any size in slices (document 01, "The rules"): some of the contracts, their nodes numbered anew, and of the constraints those that have a price.
use Rattle.std.specs.Prelude.{◌≡◌, false, List, ℕ, ◌<◌}
use Rattle.tariff.specs.declared.contracts.Contract.{Contract}
use Rattle.tariff.specs.Units.{Factors, price}
use Rattle.tariff.specs.Settlement.{amount, cents, priced_at}
use Rattle.slice_rules.specs.Slices.{Block, StandsFor}

-- a block with prices of its own: none of its constraints twice, each with its price, and no other has one
pub record PricedBlock (constraints : ℕ) (prices : List ℕ) (b : Block) (own : List ℕ) : Type 0 where
  pub inside : (j : ℕ) → j < b.size → b.number j < constraints
  pub once : (i j : ℕ) → i < b.size → j < b.size → b.number i ≡ b.number j → i ≡ j
  pub prices-same : (j : ℕ) → j < b.size → price own j ≡ price prices (b.number j)
  pub others_free : (k : ℕ) → k < constraints → ((j : ℕ) → j < b.size → b.number j ≡ k → ⊥) → price prices k ≡ 0

module _ (whole : Factors) (prices : List ℕ) (b : Block) (slice : Factors) (own : List ℕ) where
  -- what is said of contract d of the slice, which stands for contract c of the whole: exact amount, cents, and what priced it, constraint by constraint
  pub record SettledAsWhole (c d : Contract) : Type 0 where
    pub amount-same : amount slice own d ≡ amount whole prices c
    pub cents-same : cents (amount slice own d) ≡ cents (amount whole prices c)
    pub priced-same : (j : ℕ) → j < b.size → priced_at slice own d j ≡ priced_at whole prices c (b.number j)
    pub others_not_priced : (k : ℕ) → k < whole.constraints → ((j : ℕ) → j < b.size → b.number j ≡ k → ⊥) → priced_at whole prices c k ≡ false

-- THE STATEMENT, for every grid, of any number of nodes, constraints and contracts
abbrev pub AmountIsTheWhole : Type 0
AmountIsTheWhole = (whole : Factors) (prices : List ℕ) (b : Block) (slice : Factors) (own : List ℕ)
    → slice.constraints ≡ b.size → PricedBlock whole.constraints prices b own
    → (c d : Contract) → StandsFor whole b slice c d → SettledAsWhole whole prices b slice own c d
