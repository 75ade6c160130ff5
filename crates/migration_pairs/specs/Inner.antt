-- What is asked of a square and loads that 22 and 23 do not turn down, and of the place of new contracts.
use Rattle.std.specs.Prelude.{◌≡◌, cond, List, [], ◌∷◌, ℕ, zero, suc, ◌+◌, ◌≤◌, ◌<◌, eqb, length, get_or, nat_abs}
use Rattle.integers.specs.Sums.{max0}
use Rattle.tariff.specs.declared.contracts.Contract.{Contract}
use Rattle.tariff.specs.declared.units.Transfer.{Transfer}
use Rattle.tariff.specs.Units.{max_entities, max_load, max_quantity, max_contracts}
use Rattle.layouts.specs.declared.forms.Form.{Form}
use Rattle.layouts.specs.Forms.{end_width}
use Rattle.layouts.specs.BookFile.{book_bytes_of}
use Rattle.layouts.specs.BookTable.{ContractFits}
use Rattle.migration_rules.specs.Transfers.{load}
use Rattle.migration_rules.specs.ContractRules.{gained, countered}
use Rattle.migration_rules.specs.Inner.{Within}
use Rattle.migration_transfers.specs.Squares.{no_transfer, lost_from, lost_in}
use Rattle.migration_transfers.specs.Inner.{max_net, SizedRow, SizedSquare}
use Rattle.migration_pairs.specs.declared.Gainers.{Gainers}

pub record MigrationReady (square : List (List Transfer)) (loads : List ℕ) : Type 0 where
  pub few : length loads ≤ max_entities
  pub most : (i : ℕ) → i < length loads → get_or loads i 0 ≤ max_load
  pub size : SizedSquare square
  pub losses : Within (lost_in square) loads

-- the same of one contract and its holder's row in the square, where the holder has one
pub record RowReady (row : List Transfer) (loads : List ℕ) (c : Contract) : Type 0 where
  pub few : length loads ≤ max_entities
  pub most : (i : ℕ) → i < length loads → get_or loads i 0 ≤ max_load
  pub size : SizedRow row
  pub losses : 0 < c.holder → c.holder ≤ length loads → (j : ℕ) → 0 < j → j ≤ length loads → lost_from row j ≤ load loads c.holder

-- what is lost in cell j of a row, and how many of the first m cells lose anything
abbrev pub lost_at : List Transfer → ℕ → ℕ
lost_at row j = nat_abs (max0 (get_or row j no_transfer).0)

unfoldable pub gainers_to : List Transfer → ℕ → ℕ
gainers_to row zero = 0
gainers_to row (suc m) = gainers_to row m + cond (eqb (lost_at row m) 0) 0 1

abbrev pub least_of : Gainers → ℕ
least_of g = nat_abs (max0 g.least.0)

-- those who gain in the first m cells of a row
pub record GainersOf (row : List Transfer) (m : ℕ) (g : Gainers) : Type 0 where
  pub count-is : g.count ≡ gainers_to row m
  pub few : g.count ≤ m
  pub size : nat_abs g.least.0 ≤ max_net
  pub none : least_of g ≡ 0 → (j : ℕ) → j < m → lost_at row j ≡ 0
  pub low : (j : ℕ) → j < m → (lost_at row j ≡ 0 → ⊥) → least_of g ≤ lost_at row j
  pub within : (B : ℕ) → ((j : ℕ) → j < m → lost_at row j ≤ B) → least_of g ≤ B

abbrev pub no_gainers_of : Gainers
no_gainers_of = record { count = 0; least = no_transfer }

-- those of each loser among n LSEs, by the square
pub record LosersOf (square : List (List Transfer)) (n : ℕ) (losers : List Gainers) : Type 0 where
  pub each : (i : ℕ) → i < max_entities → GainersOf (get_or square i []) n (get_or losers i no_gainers_of)

-- the contracts of one share
abbrev pub pair_of : Contract → ℕ → ℕ → List Contract
pair_of c gainer q = cond (eqb q 0) [] (gained c gainer q ∷ countered c q ∷ [])

-- a contract that fits, and room for new ones from place at on
pub record Basis (f : Form) (new : List Contract) (at : ℕ) (c : Contract) (file : List ℕ) : Type 0 where
  pub quantity-most : c.quantity.0 ≤ max_quantity
  pub fits : ContractFits (end_width f) c
  pub few : at + length new ≤ max_contracts
  pub room : book_bytes_of f (at + length new) ≤ length file
