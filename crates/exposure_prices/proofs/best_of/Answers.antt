-- `best_of`.
use mathlib.Core.Path.{◌≡◌, ap}
use lib.ListN.{length}
use Prim.Native.Nat.{◌<◌}
use native.Mathlib.Omega.{arith}
use lib.IntN.{ℤ, pos, ◌*ℤ◌}
use mir.Syntax.{w64}
use mir.Val.{to_z, of_z}
use Rattle.integers.specs.Sums.{max0}
use Rattle.integers.proofs.Machine.{back}
use Rattle.tariff.specs.Units.{max_price}
use Rattle.exposure_rules.proofs.Plain.{largest_inside}
use Rattle.exposure_figures.proofs.Figures.{exactly_of}
use Rattle.test_excesses.specs.Inner.{cell_at}
use Rattle.exposure_prices.proofs.best_of.Goals as goal

inside : (c : goal.After-largest_cell-set) → c.largest_cell-set.result < (length c.args.costs.now)
inside c = rw c.largest_cell-set.ensures (largest_inside (length c.args.costs.now) (cell_at c.args.costs.now) c.requires.1)

same : (c : goal.After-largest_cell-set) → let z = cell_at c.args.costs.now c.largest_cell-set.result in to_z w64 (of_z w64 z) ≡ z
same c = back (cell_at c.args.costs.now c.largest_cell-set.result) (omega (arith, c.requires.0.sized c.largest_cell-set.result (inside c)))

pub offset_bounds-costs-set : goal.offset_bounds-costs-set
offset_bounds-costs-set c = record { fits = omega (arith, inside c, c.requires.0.few) }

pub bounds-costs-set : goal.bounds-costs-set
bounds-costs-set c = omega (arith, inside c, c.requires.0.long)

pub cost_at-requires : goal.cost_at-requires
cost_at-requires c = rw (same c.before) (c.requires.0.sized c.largest_cell-set.result (inside c.before))

pub returns : goal.returns
returns c =
    let l = c.before.before in
    (l.largest_cell-set.ensures, exactly_of c.cost_at.result (ap (λ (z : ℤ). max0 z *ℤ pos max_price) (same l)) c.cost_at.ensures)
