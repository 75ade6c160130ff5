-- Document 01, "Terms of the third demand". `cs` are the contracts of the period that is tested.
use Rattle.std.specs.Prelude.{◌≡◌, List, ℕ, ◌*◌, ◌≤◌, ◌<◌, length, set, replicate, ℤ, pos, ◌-ℤ◌, ◌≤ℤ◌}
use Rattle.integers.specs.Sums.{sum_to}
use Rattle.tariff.specs.declared.contracts.Contract.{Contract}
use Rattle.tariff.specs.declared.processes.Process.{Process}
use Rattle.tariff.specs.Units.{Factors, Grid, max_price, price}
use Rattle.tariff.specs.Settlement.{exact_total}
use Rattle.tariff.specs.Feasibility.{released}

-- "a price list has one whole number of cents, 0 to 500,000, for each constraint", of which there are k
pub record PriceList (k : ℕ) (p : List ℕ) : Type 0 where
  pub one_each : length p ≡ k
  pub capped : (j : ℕ) → j < k → price p j ≤ max_price

-- one cent at constraint j and nothing elsewhere
unfoldable pub one_cent : ℕ → ℕ → List ℕ
one_cent k j = set (replicate k 0) j 1

-- net payment: the sum of the exact amounts of the period's contracts, charges negative
unfoldable pub net_payment : Factors → List Contract → List ℕ → ℤ
net_payment f cs p = exact_total f p cs

module _ (g : Grid) (process : Process) where
  -- rent: the sum over constraints of released limit × price
  unfoldable pub rent : List ℕ → ℤ
  rent p = sum_to g.factors.constraints (λ k. pos (released g.limits process k * price p k))

  -- shortfall: net payment minus rent
  unfoldable pub shortfall : List Contract → List ℕ → ℤ
  shortfall cs p = net_payment g.factors cs p -ℤ rent p

  -- w is the worst shortfall: some price list's shortfall equals it and no price list's exceeds it
  pub record IsWorst (cs : List Contract) (w : ℤ) : Type 0 where
    pub prices : List ℕ
    pub is-list : PriceList g.factors.constraints prices
    pub reached : shortfall cs prices ≡ w
    pub most : (p : List ℕ) → PriceList g.factors.constraints p → shortfall cs p ≤ℤ w
