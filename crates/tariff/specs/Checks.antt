-- Document 01, "When input is turned down": the conditions on counts, numbers and figures, each with its refusal. Those on a file's bytes are in layouts.
use Rattle.std.specs.Prelude.{Bool, ◌||◌, List, ℕ, leb, ltb, eqb, ℤ, nat_abs}
use Rattle.lists.specs.Lists.{any_of, above}
use Rattle.tariff.specs.declared.refusals.Refusal.TheVariants.{NodeCount, ConstraintCount, LimitRange, FactorRange, ShortTable, ContractCount}
use Rattle.tariff.specs.declared.refusals.Refusal.TheVariants.{NodeNumber, QuantityRange, PriceRange, ProcessNumber, PeriodOrKind, HolderRange}
use Rattle.tariff.specs.declared.refusals.Refusal.TheVariants.{ShareRange, NoDemand}
use Rattle.tariff.specs.Units.{max_nodes, max_constraints, max_contracts, max_limit, max_factor, max_price, max_quantity, max_holder}
use Rattle.tariff.specs.Units.{max_coordinators, max_balance, max_demand}
use Rattle.tariff.specs.Refusals.{Check}

-- 2: nodes 0 or above a bound
abbrev pub nodes_outside_of : ℕ → ℕ → Check
nodes_outside_of most n = record { fails = eqb n 0 || ltb most n; refusal = NodeCount }

-- 2, "for any stated node count": "outside 1 to 4,000"
abbrev pub node_count : ℕ → Check
node_count n = nodes_outside_of max_nodes n

-- 3: constraints above 64
abbrev pub constraint_count : ℕ → Check
constraint_count k = record { fails = ltb max_constraints k; refusal = ConstraintCount }

-- 6: a limit too large
abbrev pub limit_bad : ℕ → Bool
limit_bad l = above max_limit l

abbrev pub limit_range : List ℕ → Check
limit_range ls = record { fails = any_of limit_bad ls; refusal = LimitRange }

-- 7: a factor out of range
abbrev pub factor_bad_of : ℤ → Bool
factor_bad_of f = ltb max_factor (nat_abs f)

abbrev pub factor_range : List ℤ → Check
factor_range fs = record { fails = any_of factor_bad_of fs; refusal = FactorRange }

-- 9: a lent table, or a place for an answer, of fewer cells than are needed
abbrev pub short_table : ℕ → ℕ → Check
short_table cells needed = record { fails = ltb cells needed; refusal = ShortTable }

-- 10: more than 1,000 contracts
abbrev pub contract_count : ℕ → Check
contract_count m = record { fails = ltb max_contracts m; refusal = ContractCount }

-- 11: source or sink not below the node count
abbrev pub node_number : ℕ → ℕ → ℕ → Check
node_number nodes source sink = record { fails = leb nodes source || leb nodes sink; refusal = NodeNumber }

-- the same of listed nodes (document 02, paper 6: "a listed number not below the node count"; paper 7)
abbrev pub listed_nodes : ℕ → List ℕ → Check
listed_nodes nodes listed = record { fails = any_of (leb nodes) listed; refusal = NodeNumber }

-- 13: quantity 0 or above 1,000,000
abbrev pub quantity_range : ℕ → Check
quantity_range q = record { fails = eqb q 0 || ltb max_quantity q; refusal = QuantityRange }

-- 15: a price too large
abbrev pub price_bad : ℕ → Bool
price_bad p = above max_price p

abbrev pub price_range : List ℕ → Check
price_range ps = record { fails = any_of price_bad ps; refusal = PriceRange }

-- 16: process not 0 to 2
abbrev pub process_number : ℕ → Check
process_number p = record { fails = ltb 2 p; refusal = ProcessNumber }

-- 17: period not 0 or 1
abbrev pub period_number : ℕ → Check
period_number t = record { fails = ltb 1 t; refusal = PeriodOrKind }

-- 17, of a contract that is written: kind or period not 0 or 1
abbrev pub kind_and_period : ℕ → ℕ → Check
kind_and_period kind period = record { fails = ltb 1 kind || ltb 1 period; refusal = PeriodOrKind }

-- 18: holder above 1,023
abbrev pub holder_range : ℕ → Check
holder_range h = record { fails = ltb max_holder h; refusal = HolderRange }

-- 26, "numbers or counts outside these" (document 02, paper 13): coordinators 0 or above 256
abbrev pub coordinator_count : ℕ → Check
coordinator_count n = record { fails = eqb n 0 || ltb max_coordinators n; refusal = ShareRange }

-- a balance too large, of either sign
abbrev pub balance_range : ℤ → Check
balance_range b = record { fails = ltb max_balance (nat_abs b); refusal = ShareRange }

-- a demand too large
abbrev pub demand_range : List ℕ → Check
demand_range ds = record { fails = any_of (above max_demand) ds; refusal = ShareRange }

-- 27: "demands totalling 0"
abbrev pub no_demand : ℕ → Check
no_demand total = record { fails = eqb total 0; refusal = NoDemand }
