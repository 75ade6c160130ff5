-- Document 01, "The rules": what a contract's kind and period do.
use Rattle.std.specs.Prelude.{Bool, true, false, cond, List, [], ◌∷◌, ℕ, zero, suc, ◌≤◌, ◌<◌, ℤ}
use Rattle.integers.specs.Sums.{max0}
use Rattle.tariff.specs.declared.contracts.Kind.{Kind}
use Rattle.tariff.specs.declared.contracts.Kind.TheVariants.{Obligation, Option}
use Rattle.tariff.specs.declared.contracts.Period.{Period}
use Rattle.tariff.specs.declared.contracts.Period.TheVariants.{OffPeak, OnPeak}
use Rattle.tariff.specs.declared.contracts.Contract.{Contract}
use Rattle.tariff.specs.Units.{max_quantity}

-- "kind 1 (0 obligation, 1 option)"
abbrev pub kind_of : ℕ → Kind
kind_of zero = Obligation
kind_of (suc n) = Option

-- "0 off-peak or 1 on-peak"
abbrev pub period_of : ℕ → Period
period_of zero = OffPeak
period_of (suc n) = OnPeak

-- An obligation counts with its sign; an option counts only where it is positive. Of amounts (003, 36.2.1 and 36.2.2) and of flows alike.
abbrev pub counted : Kind → ℤ → ℤ
counted Obligation x = x
counted Option x = max0 x

abbrev pub same_period : Period → Period → Bool
same_period OffPeak OffPeak = true
same_period OffPeak OnPeak = false
same_period OnPeak OffPeak = false
same_period OnPeak OnPeak = true

-- the contracts of one period, in the book's order
unfoldable pub of_period : Period → List Contract → List Contract
of_period t [] = []
of_period t (c ∷ cs) = cond (same_period c.period t) (c ∷ of_period t cs) (of_period t cs)

-- a contract whose ends are nodes and whose quantity is in range
pub record InRange (nodes : ℕ) (c : Contract) : Type 0 where
  pub source-below : c.source < nodes
  pub sink-below : c.sink < nodes
  pub quantity-sized : c.quantity.0 ≤ max_quantity
