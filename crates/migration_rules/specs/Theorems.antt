-- What paper 5 says of net transfers and of the book that follows them, as predicates: proved of every list of rows, every list of loads and every book.
use Rattle.std.specs.Prelude.{◌≡◌, List, [], ◌∷◌, map, ℕ, suc, ℤ, pos, neg_ℤ, ◌+ℤ◌}
use Rattle.largest_remainders.specs.Ranks.{add_to}
use Rattle.tariff.specs.declared.contracts.Contract.{Contract}
use Rattle.tariff.specs.declared.contracts.Period.{Period}
use Rattle.tariff.specs.declared.processes.Process.{Process}
use Rattle.tariff.specs.Units.{Factors, Grid}
use Rattle.tariff.specs.ContractRules.{of_period}
use Rattle.tariff.specs.Settlement.{amount, exact_total}
use Rattle.tariff.specs.Feasibility.{flow, total_flow}
use Rattle.test_rules.specs.Theorems.{SameTest}
use Rattle.migration_rules.specs.Transfers.{MigrationRow, row, net}
use Rattle.migration_rules.specs.ContractRules.{gainer_share}

-- 001's nine rows, and the square of its four LSEs' nets, a row for each loser
abbrev pub manual_rows : List MigrationRow
manual_rows =
    row 200 5 1 2 ∷ row 600 5 1 3 ∷ row 500 10 2 4 ∷ row 450 10 4 3 ∷ row 5 200 1 2 ∷ row 35 200 2 3 ∷ row 5 800 3 1 ∷ row 4 850 3 2 ∷ row 1 8000 1 3 ∷ []

abbrev pub nets_of : List MigrationRow → List (List ℤ)
nets_of rows = map (λ i. map (λ j. net rows i j) (1 ∷ 2 ∷ 3 ∷ 4 ∷ [])) (1 ∷ 2 ∷ 3 ∷ 4 ∷ [])

abbrev pub manual_nets_of : List (List ℤ)
manual_nets_of =
    (pos 0 ∷ pos 2000 ∷ pos 7000 ∷ pos 0 ∷ [])
    ∷ (neg_ℤ (pos 2000) ∷ pos 0 ∷ pos 3600 ∷ pos 5000 ∷ [])
    ∷ (neg_ℤ (pos 7000) ∷ neg_ℤ (pos 3600) ∷ pos 0 ∷ neg_ℤ (pos 4500) ∷ [])
    ∷ (pos 0 ∷ neg_ℤ (pos 5000) ∷ pos 4500 ∷ pos 0 ∷ [])
    ∷ []

-- the two contracts of a pair: no flow and no payment together, on any grid and at any prices
pub record Cancels (c d : Contract) : Type 0 where
  pub no_flow : (f : Factors) (k : ℕ) → flow f c k +ℤ flow f d k ≡ pos 0
  pub no_payment : (f : Factors) (p : List ℕ) → amount f p c +ℤ amount f p d ≡ pos 0

-- "Every constraint's flow is unchanged, so the new book passes exactly when the old one did": on every grid, in either period u, in every process
pub record MigrationKept (old new : List Contract) : Type 0 where
  pub flows-kept : (f : Factors) (u : Period) (k : ℕ) → total_flow f (of_period u new) k ≡ total_flow f (of_period u old) k
  pub figures-kept : (g : Grid) (process : Process) (u : Period) → SameTest g process (of_period u new) (of_period u old)
  -- and so is what it pays in all, before rounding
  pub payment-kept : (f : Factors) (p : List ℕ) (u : Period) → exact_total f p (of_period u new) ≡ exact_total f p (of_period u old)

-- what gainers 1 to m receive of one base contract
unfoldable pub shares_to : (ℕ → ℕ → ℕ) → List ℕ → Contract → ℕ → ℕ
shares_to lost loads c m = add_to m (λ j. gainer_share lost loads c (suc j))
