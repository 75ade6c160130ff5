-- THE THEOREMS over the definitions, each for every grid, book, period and process. Statements only: the proofs are in Worst.antt,
-- WorstNumber.antt, Overloads.antt, Rules.antt, Periods.antt, Priced.antt, SameEnds.antt and Answers.antt.
use mathlib.Core.Path.{◌≡◌, refl}
use mathlib.Core.Logic.{◌↔◌, ◌≢◌}
use mathlib.Core.Bool.{true, cond}
use mathlib.Core.List.{List, [], ◌∷◌, ◌++◌}
use Prim.Native.Nat.{ℕ, ◌+◌, ◌<◌, ◌≤◌}
use native.Mathlib.Numerals.{add-one}
use lib.Count.{ones, count_trailing_zeros}
use lib.IntN.{ℤ, pos, neg_ℤ, ◌+ℤ◌, ◌*ℤ◌}
use lib.Signed.{◌≤ℤ◌, ◌<ℤ◌}
use Rattle.integers.specs.Sums.{sum_to}
use Rattle.lists.specs.Lists.{Each}
use Rattle.lists.proofs.Sets.{set-ones, set-trailing}
use Rattle.lists.specs.Sets.{Lowest}
use Rattle.tariff.specs.declared.contracts.Contract.{Contract}
use Rattle.tariff.specs.declared.contracts.Kind.TheVariants.{Option}
use Rattle.tariff.specs.declared.contracts.Period.{Period}
use Rattle.tariff.specs.declared.processes.Process.{Process}
use Rattle.tariff.specs.declared.refusals.Refusal.{Refusal}
use Rattle.tariff.specs.Units.{Factors, Grid, factor, price, max_constraints}
use Rattle.tariff.specs.ContractRules.{counted, of_period}
use Rattle.tariff.specs.Refusals.{number_of}
use Rattle.tariff.specs.Feasibility.{flow, Passes, excess, overloaded, overload_set, overload_count, lowest_overload}
use Rattle.tariff.specs.Settlement.{congestion, mcc, amount, spread_at, priced_at, priced_set_of, priced_count}
use Rattle.tariff.specs.Shortfall.{PriceList, shortfall, one_cent, IsWorst}
use Rattle.tariff.proofs.Worst as W
use Rattle.tariff.proofs.Overloads as O
use Rattle.tariff.proofs.Rules as R
use Rattle.tariff.proofs.Periods as P
use Rattle.tariff.proofs.WorstNumber as N
use Rattle.tariff.proofs.Priced as C
use Rattle.tariff.proofs.SameEnds as S
use Rattle.tariff.proofs.Answers as A

module _ (g : Grid) (process : Process) (period : Period) (book : List Contract) where
  abbrev tested : List Contract
  tested = of_period period book

  -- Demand 3: the test passes exactly when the worst shortfall is 0
  pub pass_is_worst_zero : Passes g process tested ↔ IsWorst g process tested (pos 0)
  pass_is_worst_zero = (W.pass→worst g process tested, W.worst→pass g process tested)

  -- Demand 3: the one-cent list is a price list, and its shortfall is the excess at its constraint
  pub excess-is_a_shortfall : (k : ℕ) → k < g.factors.constraints
      → PriceList g.factors.constraints (one_cent g.factors.constraints k)
      × (shortfall g process tested (one_cent g.factors.constraints k) ≡ excess g process tested k)
  excess-is_a_shortfall k h = (W.only_list g k h, W.only_shortfall g process tested k h)

  -- the test passes exactly when no constraint is in the overload set
  pub pass_is_empty_set : Passes g process tested ↔ (overload_set g process tested ≡ 0)
  pass_is_empty_set = O.pass_is_empty_set g process tested

  -- Demand 3: where it does not pass, the constraint named is the lowest overloaded one of the grid's; the one-cent list there is a price list, and its shortfall is
  -- the excess, which is above 0
  pub fail_names_lowest : (Passes g process tested → ⊥)
      → Lowest g.factors.constraints (overloaded g process tested) (lowest_overload g process tested)
      × PriceList g.factors.constraints (one_cent g.factors.constraints (lowest_overload g process tested))
      × (shortfall g process tested (one_cent g.factors.constraints (lowest_overload g process tested)) ≡ excess g process tested (lowest_overload g process tested))
      × (pos 0 <ℤ excess g process tested (lowest_overload g process tested))
  fail_names_lowest fails =
      let lowest = O.fails-lowest g process tested fails in
      let list = excess-is_a_shortfall (lowest_overload g process tested) lowest.inside in
      (lowest, list.0, list.1, O.fails-excess g process tested fails)

  -- the count is the set's count of ones, and the lowest its trailing zeros
  pub count-is_ones : ones (overload_set g process tested) ≡ overload_count g process tested
  unfolding overload_set overload_count
  count-is_ones = set-ones g.factors.constraints (overloaded g process tested)

  pub lowest-is_trailing : g.factors.constraints ≤ max_constraints → (Passes g process tested → ⊥)
      → count_trailing_zeros 64 (overload_set g process tested) ≡ lowest_overload g process tested
  unfolding overload_set lowest_overload
  lowest-is_trailing h fails = set-trailing g.factors.constraints 64 (overloaded g process tested) h (O.fails-some g process tested fails)

  -- "this number exists": the worst shortfall is one number
  pub worst-is_one_number : (w : ℤ) × IsWorst g process tested w × ((v : ℤ) → IsWorst g process tested v → v ≡ w)
  worst-is_one_number = N.worst-is_one_number g process tested

  -- and it is above 0 where the test does not pass
  pub fail_worst_above_zero : (Passes g process tested → ⊥) → (w : ℤ) → IsWorst g process tested w → pos 0 <ℤ w
  fail_worst_above_zero = N.fail_worst_above_zero g process tested

-- the contracts tested are of the period, every one
pub tested_are_of_the_period : (period : Period) (book : List Contract) → Each (λ (c : Contract). c.period ≡ period) (of_period period book)
tested_are_of_the_period = P.tested_are_of_the_period

-- and every contract of the period is tested, at its place in the book's order
pub of-the_period_is_tested : (period : Period) (earlier later : List Contract) (c : Contract) → c.period ≡ period
    → of_period period (earlier ++ c ∷ later) ≡ of_period period earlier ++ c ∷ of_period period later
of-the_period_is_tested = P.of-the_period_is_tested

-- the empty book passes
pub empty_book_passes : (g : Grid) (process : Process) (period : Period) → Passes g process (of_period period [])
unfolding of_period
empty_book_passes g process period = W.empty_passes g process

-- an option never relieves a constraint
pub option_never_relieves : (f : Factors) (c : Contract) → c.kind ≡ Option → (k : ℕ) → pos 0 ≤ℤ flow f c k
option_never_relieves f c e k = R.option_never_relieves f c e k

-- 002 part C, MCCi = -(Σ PTDFik * FSPk), constraint by constraint
module _ (f : Factors) (prices : List ℕ) (node : ℕ) where
  -- before the first constraint the sum is 0
  pub sum-starts_at_zero : congestion f prices node 0 ≡ pos 0
  unfolding congestion sum_to
  sum-starts_at_zero = refl

  -- with each constraint it takes that one's product, not negated
  pub sum-takes_the_next : (k : ℕ) → congestion f prices node (k + 1) ≡ congestion f prices node k +ℤ factor f node k *ℤ pos (price prices k)
  unfolding congestion sum_to
  sum-takes_the_next k = rw add-one refl

  -- after the last it is negated, once
  pub mcc-is_one_negation : mcc f prices node ≡ neg_ℤ (congestion f prices node f.constraints)
  unfolding mcc
  mcc-is_one_negation = refl

-- Paper 8: what priced a contract, for every grid's factors and every price list
module _ (f : Factors) (p : List ℕ) (c : Contract) where
  -- the size of the set is its count of ones
  pub priced-size_is_ones : ones (priced_set_of f p c) ≡ priced_count f p c
  unfolding priced_set_of priced_count
  priced-size_is_ones = set-ones f.constraints (priced_at f p c)

  -- a constraint is in it exactly where its price isn't 0 and the two factors differ
  pub priced-where : (k : ℕ) → (priced_at f p c k ≡ true) ↔ ((price p k ≢ 0) × (factor f c.source k ≢ factor f c.sink k))
  priced-where = C.priced-where f p c

  -- the amount is that of the constraints in it: the others moved nothing
  pub amount-is_of_the_priced : amount f p c ≡ counted c.kind (sum_to f.constraints (λ k. cond (priced_at f p c k) (spread_at f p c k) (pos 0)) *ℤ pos c.quantity.0)
  amount-is_of_the_priced = C.amount-is_of_the_priced f p c

  -- where it is empty the amount is 0
  pub unpriced_amount_zero : priced_set_of f p c ≡ 0 → amount f p c ≡ pos 0
  unpriced_amount_zero = C.unpriced_amount_zero f p c

-- Paper 6: "flow 0, amount 0, either kind", and nothing prices a contract whose ends coincide
module _ (f : Factors) (c : Contract) (same : c.source ≡ c.sink) where
  pub same_ends_no_flow : (k : ℕ) → flow f c k ≡ pos 0
  same_ends_no_flow = S.same_ends_no_flow f c same

  pub same_ends_no_amount : (p : List ℕ) → amount f p c ≡ pos 0
  same_ends_no_amount = S.same_ends_no_amount f c same

  pub same_ends_not_priced : (p : List ℕ) → priced_set_of f p c ≡ 0
  same_ends_not_priced = S.same_ends_not_priced f c same

-- "12 no longer occurs": no refusal has that number
pub no_number_is_12 : (r : Refusal) → number_of r ≢ 12
no_number_is_12 r = (A.number_is r).not_12
