-- Running totals of flows in lent cells: how many contracts they may be of, and cells that are no totals. Definitions only.
use Rattle.std.specs.Prelude.{Bool, ◌||◌, List, ℕ, ◌*◌, ltb, take, ℤ, nat_abs}
use Rattle.lists.specs.Lists.{any_of}
use Rattle.tariff.specs.declared.refusals.Refusal.TheVariants.{ContractCount}
use Rattle.tariff.specs.Units.{max_flow}
use Rattle.tariff.specs.Refusals.{Check}

-- totals are of at most so many contracts: 4 × 10^18 in size, below 2^62
abbrev pub max_summed : ℕ
max_summed = 20000000

-- a flow larger than so many contracts can make
abbrev pub beyond : ℕ → ℤ → Bool
beyond count z = ltb (max_flow * count) (nat_abs z)

-- k cells that are no totals: of too many contracts, or a flow larger than so many can make
unfoldable pub no_totals_of : ℕ → ℕ → List ℤ → Bool
no_totals_of k count flows = ltb max_summed count || any_of (beyond count) (take k flows)

-- 10: cells that are no totals
abbrev pub totals_range : ℕ → ℕ → List ℤ → Check
totals_range k count flows = record { fails = no_totals_of k count flows; refusal = ContractCount }

-- 10: totals of more contracts than they may be of
abbrev pub summed_count : ℕ → Check
summed_count count = record { fails = ltb max_summed count; refusal = ContractCount }
