-- What the functions say: a figure as whole cents and parts, and a sum of rents.
use Rattle.std.specs.Prelude.{◌≡◌, List, ℕ, ◌+◌, ◌*◌, ◌/◌, ◌^◌, ◌≤◌, ◌<◌, get_or, ℤ, pos, nat_abs, ◌+ℤ◌, ◌*ℤ◌}
use Rattle.tariff.specs.declared.processes.Process.{Process}
use Rattle.tariff.specs.Units.{max_price, per_cent}
use Rattle.tariff.specs.Processes.{percent}
use Rattle.tariff.specs.Inner.{max_released}
use Rattle.exposure_figures.specs.declared.Exact.{Exact}
use Rattle.exposure_figures.specs.declared.Owed.{Owed}

-- the figure z, as whole cents and parts
abbrev pub exact_of : Exact → ℤ
exact_of r = r.whole *ℤ pos per_cent +ℤ pos r.parts

pub record Exactly (z : ℤ) (r : Exact) : Type 0 where
  pub is : exact_of r ≡ z
  pub parts-small : r.parts < per_cent
  pub whole-sized : nat_abs r.whole < 2 ^ 62

-- the rent on constraint j: its released limit at its price, and the most it can be, in parts and in cents rounded up
abbrev pub rent_in : List ℕ → Process → List ℕ → ℕ → ℕ
rent_in limits process prices j = get_or limits j 0 * percent process * 1000 * get_or prices j 0

abbrev pub max_rent : ℕ
max_rent = max_released * max_price

abbrev pub max_rent_cents : ℕ
max_rent_cents = max_rent / per_cent + 1

-- a rent as whole cents and parts: what they make, and their bounds after so many constraints
abbrev pub rent_of : Owed → ℕ
rent_of r = r.whole * per_cent + r.parts

pub record RentBounded (m : ℕ) (r : Owed) : Type 0 where
  pub parts-small : r.parts < per_cent
  pub whole-sized : r.whole ≤ max_rent_cents * m

-- what is paid, and its bound
pub record Paid (r : Exact) : Type 0 where
  pub parts-small : r.parts < per_cent
  pub whole-sized : nat_abs r.whole < 2 ^ 60
