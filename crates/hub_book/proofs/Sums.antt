-- Flows and exact totals of one book behind another.
use mathlib.Core.Path.{◌≡◌, ap, ◌∙◌}
use mathlib.Core.List.{List, ◌++◌}
use Prim.Native.Nat.{ℕ}
use lib.IntN.{ℤ, ◌+ℤ◌}
use Rattle.integers.specs.Sums.{sum_over_of}
use Rattle.integers.proofs.Sums.{sum_over-append}
use Rattle.tariff.specs.declared.contracts.Contract.{Contract}
use Rattle.tariff.specs.declared.contracts.Period.{Period}
use Rattle.tariff.specs.ContractRules.{of_period}
use Rattle.tariff.specs.Feasibility.{flow, total_flow}
use Rattle.tariff.specs.Settlement.{amount, exact_total}
use Rattle.tariff.specs.Units.{Factors}
use Rattle.tariff.proofs.Periods.{of_period-append}

module _ (all cs ds : List Contract) (are : all ≡ cs ++ ds) (t : Period) where
  -- a sum over one period's contracts
  both : (g : Contract → ℤ) → sum_over_of (of_period t all) g ≡ sum_over_of (of_period t cs) g +ℤ sum_over_of (of_period t ds) g
  both g = ap (λ (l : List Contract). sum_over_of (of_period t l) g) are ∙ ap (λ (l : List Contract). sum_over_of l g) (of_period-append t cs ds) ∙ sum_over-append (of_period t cs) (of_period t ds) g

  pub flow-both : (f : Factors) (k : ℕ) → total_flow f (of_period t all) k ≡ total_flow f (of_period t cs) k +ℤ total_flow f (of_period t ds) k
  unfolding total_flow
  flow-both f k = both (λ c. flow f c k)

  pub total-both : (f : Factors) (p : List ℕ) → exact_total f p (of_period t all) ≡ exact_total f p (of_period t cs) +ℤ exact_total f p (of_period t ds)
  unfolding exact_total
  total-both f p = both (amount f p)
