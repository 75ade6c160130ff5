-- What only the inner functions of sharing and proofs use: demands that the checks accept, and the tables of whole cents and of keys.
use Rattle.std.specs.Prelude.{◌≡◌, List, ℕ, ◌≤◌, ◌<◌, length, get_or, ℤ, nat_abs}
use Rattle.tariff.specs.Units.{max_coordinators, max_balance, max_demand}
use Rattle.largest_remainders.specs.Shares.{whole, rest, leftover}
use Rattle.largest_remainders.specs.Inner.{remainder_key, key_at}
use Rattle.largest_remainders.specs.Ranks.{keys_from_of}
use Rattle.share_rules.specs.ShareBalance.{demand_of, total_demand}

abbrev pub max_demand_total : ℕ
max_demand_total = 256000000000

pub record DemandsIn (demands : List ℕ) : Type 0 where
  pub few : length demands ≤ max_coordinators
  pub small : (i : ℕ) → i < length demands → demand_of demands i ≤ max_demand

-- a balance's size and the demands' total
pub record Weighed (size sum : ℕ) (demands : List ℕ) : Type 0 where
  pub demands-in : DemandsIn demands
  pub size_small : size ≤ max_balance
  pub sum_is : sum ≡ total_demand demands
  pub positive : 0 < sum

-- the cents that rounding towards zero leaves of the balance's size
abbrev pub leftover_of : ℕ → List ℕ → ℕ
leftover_of size demands = leftover (length demands) (demand_of demands) size

-- each coordinator's whole cents, and its remainder and number as one
pub record RoundedCents (size : ℕ) (demands wholes keys : List ℕ) : Type 0 where
  pub whole_cells : length demands ≤ length wholes
  pub key_cells : length demands ≤ length keys
  pub whole_is : (i : ℕ) → i < length demands → get_or wholes i 0 ≡ whole (length demands) (demand_of demands) size i
  pub key_is : (i : ℕ) → i < length demands → key_at keys i ≡ remainder_key (rest (length demands) (demand_of demands) size) max_coordinators i

-- all that a share needs: the tables, and the least key that is given a leftover cent
pub record Cut (balance : ℤ) (least : ℕ) (demands wholes keys : List ℕ) : Type 0 where
  pub size_small : nat_abs balance ≤ max_balance
  pub demands-in : DemandsIn demands
  pub positive : 0 < total_demand demands
  pub rounded : RoundedCents (nat_abs balance) demands wholes keys
  pub least-is : keys_from_of (length demands) (key_at keys) least ≡ leftover_of (nat_abs balance) demands
