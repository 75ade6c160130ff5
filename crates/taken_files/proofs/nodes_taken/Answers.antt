-- `nodes_taken`: by what the grid's reader told.
use Prim.Native.Nat.{ℕ}
use lib.IntN.{ℤ, pos}
use lib.ListN.{length-replicate}
use Rattle.tariff.specs.Units.{max_constraints}
use Rattle.grid_rules.specs.ReadGrid.{program_factors}
use Rattle.taken_files.proofs.Taking.{none-taken, some_taken}
use Rattle.taken_files.proofs.nodes_taken.Goals as goal

pub returns-in-Err : goal.returns-in-Err
returns-in-Err c =
    let r = c.read_within in
    let a = c.args in
    let limits = length-replicate {A = ℕ} max_constraints 0 in
    let factors = length-replicate {A = ℤ} program_factors (pos 0) in
    none-taken a.file.now _ _ limits factors _ _ _ (rw c.in-Err.is at r.ensures)

pub returns-in-Ok : goal.returns-in-Ok
returns-in-Ok c =
    let r = c.read_within in
    let a = c.args in
    some_taken a.file.now _ _ _ _ _ _ _ (rw c.in-Ok.is at r.ensures)
