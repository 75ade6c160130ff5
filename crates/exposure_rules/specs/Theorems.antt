-- What is proved of exposure, for every grid, process and contracts: `Exposes` is a field of the promise.
use Rattle.std.specs.Prelude.{◌≡◌, ◌↔◌, ◌⊎◌, Bool, true, false, List, ℕ, ◌≤◌, ◌<◌, ltb, ℤ, pos, ◌-ℤ◌, ◌*ℤ◌, ◌≤ℤ◌}
use Rattle.lists.specs.Lists.{Each}
use Rattle.lists.specs.Sets.{set_of}
use Rattle.tariff.specs.declared.contracts.Contract.{Contract}
use Rattle.tariff.specs.declared.contracts.Kind.TheVariants.{Obligation}
use Rattle.tariff.specs.declared.processes.Process.{Process}
use Rattle.tariff.specs.Units.{Grid, factor, price}
use Rattle.tariff.specs.Feasibility.{overloaded, overload_count, Passes}
use Rattle.tariff.specs.Shortfall.{PriceList, shortfall, IsWorst}
use Rattle.exposure_rules.specs.Exposure.{highest_where, few_overloads}

-- of k constraints those that have a price, as one number: bit j for constraint j
unfoldable pub priced_on : ℕ → List ℕ → ℕ
priced_on k prices = set_of k (λ (j : ℕ). ltb 0 (price prices j))

module _ (g : Grid) (process : Process) (cs : List Contract) where
  -- (factor of source − factor of sink) on constraint k: the sign of a contract's flow before it counts
  abbrev pub spread : Contract → ℕ → ℤ
  spread c k = factor g.factors c.source k -ℤ factor g.factors c.sink k

  -- an obligation; or an option that loads all overloaded constraints or none, as far as it touches them
  abbrev pub OneWay : Contract → Type 0
  OneWay c =
      (c.kind ≡ Obligation)
      ⊎ (((k : ℕ) → k < g.factors.constraints → overloaded g process cs k ≡ true → pos 0 ≤ℤ spread c k)
      ⊎ ((k : ℕ) → k < g.factors.constraints → overloaded g process cs k ≡ true → spread c k ≤ℤ pos 0))

  -- a choice of overloaded constraints
  abbrev pub OnlyOverloaded : (ℕ → Bool) → Type 0
  OnlyOverloaded chosen = (k : ℕ) → k < g.factors.constraints → chosen k ≡ true → overloaded g process cs k ≡ true

  -- w is what the highest price costs on some of the overloaded constraints
  pub record AtCorner (w : ℤ) : Type 0 where
    pub chosen : ℕ → Bool
    pub only_overloaded : OnlyOverloaded chosen
    pub reached : shortfall g process cs (highest_where g.factors.constraints chosen) ≡ w

  -- what prices, the least and the most say of the worst shortfall
  pub record Exposes (prices : List ℕ) (least most : ℤ) : Type 0 where
    -- the least is what the prices cost
    pub is-list : PriceList g.factors.constraints prices
    pub reached : shortfall g process cs prices ≡ least
    -- and no price list costs more than the most
    pub at_most : (p : List ℕ) → PriceList g.factors.constraints p → shortfall g process cs p ≤ℤ most
    -- the worst shortfall is between them
    pub brackets : (w : ℤ) → IsWorst g process cs w → (least ≤ℤ w) × (w ≤ℤ most)
    -- the most is no more than the least times the number of overloaded constraints
    pub near : most ≤ℤ (least *ℤ pos (overload_count g process cs))
    -- where at most ten are overloaded the least is the worst shortfall, and so is the most
    pub exact-where_few : overload_count g process cs ≤ few_overloads → IsWorst g process cs least
    pub same_where_few : overload_count g process cs ≤ few_overloads → least ≡ most
    -- and no choice of overloaded constraints that costs as much is a lower number
    pub lowest-of_equals : overload_count g process cs ≤ few_overloads → (chosen : ℕ → Bool) → OnlyOverloaded chosen
        → shortfall g process cs (highest_where g.factors.constraints chosen) ≡ least
        → priced_on g.factors.constraints prices ≤ set_of g.factors.constraints chosen
    -- where they are equal they are the worst shortfall
    pub exact : least ≡ most → IsWorst g process cs most
    pub exact-where_one_overloaded : overload_count g process cs ≤ 1 → least ≡ most
    pub exact-where_one_way : Each OneWay cs → least ≡ most
    pub exact-for_obligations : Each (λ (c : Contract). c.kind ≡ Obligation) cs → least ≡ most
    -- the prices are 0 wherever nothing is overloaded, so all of them are where the test passes
    pub none_elsewhere : (k : ℕ) → k < g.factors.constraints → overloaded g process cs k ≡ false → price prices k ≡ 0
    pub none-where_passing : Passes g process cs → (k : ℕ) → k < g.factors.constraints → price prices k ≡ 0
    -- nothing can be lost exactly where the test passes
    pub none-is_pass : (most ≡ pos 0) ↔ Passes g process cs
    pub least-none_is_pass : (least ≡ pos 0) ↔ Passes g process cs
