-- A contract's amount by the MCCs of its ends, and what of it counts in an hour of the period.
use mathlib.Core.Path.{◌≡◌, refl, sym, ap, ap₂, ◌∙◌}
use denote.Enum.Bare.{sameb}
use Rattle.tariff.specs.contracts.contracts.Period.{the_type}
use Rattle.tariff.specs.declared.contracts.Period.TheVariants.{OffPeak, OnPeak}
use mathlib.Core.Bool.{Bool, true, false}
use mathlib.Core.List.{List}
use Prim.Native.Nat.{ℕ, ◌≤◌}
use native.Mathlib.Nat.{le_trans}
use native.Mathlib.Omega.{arith}
use lib.IntN.{ℤ, pos, nat_abs, ◌-ℤ◌, ◌*ℤ◌}
use Rattle.integers.proofs.Sizes.{nat_abs_times}
use Rattle.tariff.specs.declared.contracts.Contract.{Contract}
use Rattle.tariff.specs.declared.contracts.Period.{Period}
use Rattle.tariff.specs.declared.units.Mcc.{Mcc}
use Rattle.tariff.specs.Units.{Factors, max_quantity}
use Rattle.tariff.specs.ContractRules.{counted, same_period}
use Rattle.tariff.specs.Inner.{max_spread, max_amount}
use Rattle.tariff.specs.Settlement.{amount}
use Rattle.tariff.proofs.Sizes.{counted-sized}
use Rattle.hour_rules.specs.SettleHour.{priced_of}
use Rattle.hour_rules.specs.declared.PricedAmount.{PricedAmount}
use Rattle.grid_tables.specs.declared.table.HourTable.{HourTable}
use Rattle.grid_tables.specs.Hours.{factors_by, prices_by}
use Rattle.hour_mcc.specs.Inner.{MccAt}
use Rattle.hour_rules.specs.Inner.{hour_amount, AmountOf, HourAmount}

-- ---- on the way to an amount

module _ (c : Contract) (few : c.quantity.0 ≤ max_quantity) (d : ℤ) (small : nat_abs d ≤ max_spread) where
  pub product_fits : (a : ℤ) → a ≡ d *ℤ pos c.quantity.0 → nat_abs a ≤ max_amount
  product_fits a q = rw q (nat_abs_times d (pos c.quantity.0) small few)

  pub counted-fits : (a v : ℤ) → a ≡ d *ℤ pos c.quantity.0 → v ≡ counted c.kind a → nat_abs v ≤ max_amount
  counted-fits a v q w = rw w (le_trans (counted-sized c.kind a) (product_fits a q))

pub amount-end : (t : HourTable) (c : Contract) (sink source : Mcc) → MccAt t c.sink sink → MccAt t c.source source
    → (d a v : ℤ) → d ≡ sink.0 -ℤ source.0 → a ≡ d *ℤ pos c.quantity.0 → v ≡ counted c.kind a → v ≡ amount (factors_by t) (prices_by t) c
unfolding amount
amount-end t c sink source x y d a v spread q w = w ∙ ap (counted c.kind) (q ∙ ap (λ (z : ℤ). z *ℤ pos c.quantity.0) (spread ∙ ap₂ ◌-ℤ◌ x y))

-- ---- by the period

-- the derived equality of periods is the rules'
pub period_told : (s t : Period) → sameb the_type s t ≡ same_period s t
period_told OffPeak OffPeak = refl
period_told OffPeak OnPeak = refl
period_told OnPeak OffPeak = refl
period_told OnPeak OnPeak = refl

module _ (f : Factors) (p : List ℕ) (t : Period) (c : Contract) (b : Bool) (e : b ≡ same_period c.period t) (r : PricedAmount) where
  pub counts : b ≡ true → AmountOf f p c r → HourAmount f p t c r
  unfolding hour_amount priced_of
  counts h o = record { amount-is = o.amount-is ∙ rw (sym e ∙ h); amount-sized = o.amount-sized; priced-is = o.priced-is ∙ rw (sym e ∙ h) }

  pub counts-not : b ≡ false → r.amount.0 ≡ pos 0 → r.priced ≡ 0 → HourAmount f p t c r
  unfolding hour_amount priced_of
  counts-not h a s = record { amount-is = a ∙ rw (sym e ∙ h); amount-sized = rw a (omega arith); priced-is = s ∙ rw (sym e ∙ h) }
