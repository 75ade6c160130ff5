-- Sharing the Balancing Account's balance (document 02, paper 13): "At month end the account's balance, in cents and of either sign, is shared by Measured
-- Demand among 1 to 256 Scheduling Coordinators."
use Rattle.std.specs.Prelude.{◌≡◌, List, [], ◌∷◌, ℕ, ◌≤◌, ◌<◌, T, length, get_or, ℤ, pos, negsuc, neg_ℤ, nat_abs, ◌-ℤ◌, ◌*ℤ◌, Ok, Err, Result, ⊤}
use Rattle.lists.specs.Lists.{list_to}
use Rattle.integers.specs.Sums.{sum_to}
use Rattle.tariff.specs.Refusals.{Checked, passed}
use Rattle.tariff.specs.Refusals.{Check, first, Outcome, given, refused_by, answered, cells_after, ForC, passed}
use Rattle.tariff.specs.Checks.{coordinator_count, balance_range, demand_range, no_demand, short_table}
use Rattle.largest_remainders.specs.Shares.{before_by, total_weight, whole, rest, share}
use Rattle.tariff.specs.declared.refusals.Refusal.{Refusal}

-- the balance, a demand for each coordinator, numbered by its place, and the place for the shares as it is at entry
pub record ShareCall : Type 0 where
  pub balance : ℤ
  pub demands : List ℕ
  pub place : List ℤ

abbrev pub share_call : ℤ → List ℕ → List ℤ → ShareCall
share_call balance demands place = record { balance = balance; demands = demands; place = place }

-- what sharing answers beside the cells: nothing, or the refusal
abbrev pub ShareAnswer : Type 0
ShareAnswer = Result ⊤ Refusal

-- nothing is given beside the cells
abbrev pub share_outcome : ShareAnswer → Outcome
share_outcome (Ok _) = given []
share_outcome (Err r) = refused_by r

-- of coordinator i, and of all
abbrev pub demand_of : List ℕ → ℕ → ℕ
demand_of demands i = get_or demands i 0

abbrev pub total_demand : List ℕ → ℕ
total_demand demands = total_weight (length demands) (demand_of demands)

module _ (q : ShareCall) where
  -- "Numbers or counts outside these give 26; then demands totalling 0 give 27; 9 is last."
  unfoldable pub share_checks : List Check
  share_checks =
      coordinator_count (length q.demands)
      ∷ balance_range q.balance
      ∷ demand_range q.demands
      ∷ no_demand (total_demand q.demands)
      ∷ short_table (length q.place) (length q.demands)
      ∷ []

  abbrev pub share_checked : Checked
  share_checked = first share_checks

-- so many cents of a balance's sign
abbrev pub signed_like_of : ℤ → ℕ → ℤ
signed_like_of (pos n) cents = pos cents
signed_like_of (negsuc n) cents = neg_ℤ (pos cents)

-- "Each gets its proportion rounded towards zero, and leftover cents, of the balance's sign, go one each to the largest remainders in size, then the lower
-- number": the balance's size shared by largest remainders, with its sign
unfoldable pub balance_share : ℤ → List ℕ → ℕ → ℤ
balance_share balance demands i = signed_like_of balance (share (length demands) (demand_of demands) (nat_abs balance) i)

-- one cell for each coordinator
abbrev pub shares_of : ℤ → List ℕ → List ℤ
shares_of balance demands = list_to (length demands) (balance_share balance demands)

-- the proportion in size rounded towards zero, and what that cuts off, in parts of the demands' total
abbrev pub whole_of : ℤ → List ℕ → ℕ → ℕ
whole_of balance demands i = whole (length demands) (demand_of demands) (nat_abs balance) i

abbrev pub rest_of : ℤ → List ℕ → ℕ → ℕ
rest_of balance demands i = rest (length demands) (demand_of demands) (nat_abs balance) i

abbrev pub cell_of : List ℤ → ℕ → ℤ
cell_of cells i = get_or cells i (pos 0)

-- cells that are fair shares of a balance
pub record Fair (balance : ℤ) (demands : List ℕ) (cells : List ℤ) : Type 0 where
  -- "Shares add up to the balance to the cent"
  pub adds-up : sum_to (length demands) (cell_of cells) ≡ balance
  -- "none is a cent or more from its exact proportion": both times the demands' total
  pub near : (i : ℕ) → i < length demands → nat_abs (cell_of cells i *ℤ pos (total_demand demands) -ℤ balance *ℤ pos (demand_of demands i)) < total_demand demands
  pub no_demand_no_cent : (i : ℕ) → i < length demands → demand_of demands i ≡ 0 → cell_of cells i ≡ pos 0
  -- who has more than the whole cents comes, by "the largest remainders in size, then the lower number", before who has not
  pub largest_first : (i j : ℕ) → i < length demands → j < length demands
      → whole_of balance demands i < nat_abs (cell_of cells i) → nat_abs (cell_of cells j) ≤ whole_of balance demands j → T (before_by (rest_of balance demands) i j)

-- the promise: the answer, the place at exit, and that the shares are fair
pub record SharesBalance (q : ShareCall) (answer : ShareAnswer) (exit : List ℤ) : Type 0 where
  pub answer-given : share_outcome answer ≡ answered (share_checked q) []
  pub shares_given : exit ≡ cells_after (share_checked q) (shares_of q.balance q.demands) q.place
  pub fair : share_checked q ≡ passed → Fair q.balance q.demands exit

-- the same for C
abbrev pub SharesBalanceForC : ShareCall → ℕ → List ℤ → Type 0
SharesBalanceForC q number exit = ForC ShareAnswer share_outcome (λ answer. SharesBalance q answer exit) number
