-- What an amount z is kept as: in cents, and exactly as whole cents rounded down and parts.
use Rattle.std.specs.Prelude.{◌≡◌, true, false, List, ℕ, suc, ◌/◌, ◌≤◌, ◌<◌, ℤ, pos, nat_abs, ◌+ℤ◌, ◌*ℤ◌}
use Rattle.std.specs.Int.Signed.{lt_z}
use Rattle.tariff.specs.declared.contracts.Contract.{Contract}
use Rattle.tariff.specs.declared.contracts.Period.{Period}
use Rattle.tariff.specs.Units.{Factors, per_cent}
use Rattle.tariff.specs.Inner.{max_cents}
use Rattle.tariff.specs.Settlement.{cents}
use Rattle.hour_rules.specs.SettleHour.{priced_of}
use Rattle.hour_rules.specs.Inner.{hour_amount}
use Rattle.hour_amounts.specs.declared.SettledAmount.{SettledAmount}

-- from which parts on the cents are one above the whole cents: a half goes away from zero
pub record UpFrom (z : ℤ) (r : ℕ) : Type 0 where
  pub below : lt_z z (pos 0) ≡ true → r ≡ suc (per_cent / 2)
  pub above : lt_z z (pos 0) ≡ false → r ≡ per_cent / 2

pub record SizedAmount (s : SettledAmount) : Type 0 where
  pub cents-sized : nat_abs s.cents ≤ max_cents
  pub whole-sized : nat_abs s.whole ≤ max_cents
  pub parts-small : s.parts < per_cent

pub record SettledAs (z : ℤ) (s : SettledAmount) : Type 0 where
  pub cents-is : s.cents ≡ cents z
  pub exact-is : s.whole *ℤ pos per_cent +ℤ pos s.parts ≡ z
  pub sized : SizedAmount s

-- what a contract adds to an hour of the period, with what priced it
pub record HourSettled (f : Factors) (p : List ℕ) (t : Period) (c : Contract) (s : SettledAmount) : Type 0 where
  pub amount-is : SettledAs (hour_amount f p t c) s
  pub priced-is : s.priced ≡ priced_of f p t c
