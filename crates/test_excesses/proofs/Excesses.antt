-- The excess at a constraint, as the machine has it.
use mathlib.Core.Path.{◌≡◌, refl, ap, ◌∙◌}
use mathlib.Core.List.{List}
use Prim.Native.Nat.{ℕ, ◌*◌, ◌^◌, ◌≤◌, ◌<◌}
use native.Mathlib.Omega.{arith}
use lib.ListN.{get_or}
use lib.IntN.{ℤ, pos, nat_abs, ◌-ℤ◌}
use mir.Syntax.{w64}
use mir.Val.{to_z, of_z}
use Rattle.integers.proofs.Machine.{back}
use Rattle.integers.proofs.Sizes.{nat_abs_sub}
use Rattle.tariff.specs.declared.processes.Process.{Process}
use Rattle.tariff.specs.Units.{max_limit}
use Rattle.tariff.specs.Processes.{percent}
use Rattle.test_rules.proofs.Judging.{released-small}
use Rattle.test_excesses.specs.Inner.{cell_at, excess_in}

pub excess-sized : (limits : List ℕ) (process : Process) (flows : List ℤ) (j : ℕ) → nat_abs (cell_at flows j) < 2 ^ 62 → get_or limits j 0 ≤ max_limit
    → nat_abs (excess_in limits process flows j) < 2 ^ 63
excess-sized limits process flows j hf hl =
    omega (
      arith,
      nat_abs_sub (cell_at flows j) (pos (get_or limits j 0 * percent process * 1000)),
      released-small (pos (get_or limits j 0 * percent process * 1000))
          (get_or limits j 0) process hl refl,
    )

-- v is what the machine gives
pub excess-kept : (limits : List ℕ) (process : Process) (flows : List ℤ) (j : ℕ) (y v : ℤ) → nat_abs (cell_at flows j) < 2 ^ 62 → get_or limits j 0 ≤ max_limit
    → y ≡ pos (get_or limits j 0 * percent process * 1000) → v ≡ to_z w64 (of_z w64 (cell_at flows j)) -ℤ y → to_z w64 (of_z w64 v) ≡ excess_in limits process flows j
excess-kept limits process flows j y v hf hl ey ev =
    let is : v ≡ excess_in limits process flows j = ev ∙ rw (ey, back (cell_at flows j) (omega arith)) in
    ap (λ (z : ℤ). to_z w64 (of_z w64 z)) is ∙ back (excess_in limits process flows j) (excess-sized limits process flows j hf hl)
