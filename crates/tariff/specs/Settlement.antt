-- Document 01, "The rules": congestion components, amounts, cents and the exact total; document 02, paper 8: what priced a contract.
use Rattle.std.specs.Prelude.{Bool, List, ℕ, ℤ, pos, neg_ℤ, ◌-ℤ◌, ◌*ℤ◌}
use Rattle.lists.specs.Sets.{set_of, count_of}
use Rattle.integers.specs.Sums.{nonzero, sum_to, sum_over_of}
use Rattle.integers.specs.Division.{floor_div, floor_mod, round_away}
use Rattle.tariff.specs.declared.contracts.Contract.{Contract}
use Rattle.tariff.specs.Units.{Factors, factor, price, per_cent}
use Rattle.tariff.specs.ContractRules.{counted}

module _ (f : Factors) (p : List ℕ) where
  -- the sum of factor × price over the first k constraints, at node n: 002 part C before its negation
  unfoldable pub congestion : ℕ → ℕ → ℤ
  congestion n k = sum_to k (λ j. factor f n j *ℤ pos (price p j))

  -- the MCC of node n, in 10^-5 cents per MWh (002 part C): products summed first to last, then one negation
  unfoldable pub mcc : ℕ → ℤ
  mcc n = neg_ℤ (congestion n f.constraints)

  -- the exact amount of a contract, in 10^-8 cents for one hour (003, 36.2.1 and 36.2.2): sink minus source
  unfoldable pub amount : Contract → ℤ
  amount c = counted c.kind ((mcc c.sink -ℤ mcc c.source) *ℤ pos c.quantity.0)

  -- "price × (source factor - sink factor)" on constraint k
  unfoldable pub spread_at : Contract → ℕ → ℤ
  spread_at c k = pos (price p k) *ℤ (factor f c.source k -ℤ factor f c.sink k)

  -- "the set of constraints where price × (source factor - sink factor) isn't 0", and its size: kind, quantity and amount play no part
  unfoldable pub priced_at : Contract → ℕ → Bool
  priced_at c k = nonzero (spread_at c k)

  unfoldable pub priced_set_of : Contract → ℕ
  priced_set_of c = set_of f.constraints (priced_at c)

  unfoldable pub priced_count : Contract → ℕ
  priced_count c = count_of f.constraints (priced_at c)

  -- the exact total of contracts, summed before rounding
  unfoldable pub exact_total : List Contract → ℤ
  exact_total cs = sum_over_of cs amount

-- cents of an exact amount: to the nearest, a half away from zero
abbrev pub cents : ℤ → ℤ
cents a = round_away a per_cent

-- an exact total as whole cents rounded down, and parts of 0 to 99,999,999
abbrev pub whole_cents : ℤ → ℤ
whole_cents a = floor_div a per_cent

abbrev pub parts : ℤ → ℕ
parts a = floor_mod a per_cent
