-- `put_statement`.
use Prim.Native.Nat.{ℕ}
use lib.IntN.{ℤ, pos}
use lib.ListN.{length-replicate}
use Rattle.text_format.proofs.Putting.{puts_same}
use Rattle.tariff.specs.Units.{max_constraints}
use Rattle.grid_rules.specs.ReadGrid.{program_bytes, program_factors}
use Rattle.grid_rules.proofs.Taken.{within-taken}
use Rattle.text_files.proofs.WithFiles.{grid-refused, grid-text}
use Rattle.text_statement.specs.WriteStatement.{statement as statementOf}
use Rattle.text_statement.proofs.put_statement.Goals as goal

pub of-table-requires : goal.of-table-requires
of-table-requires c = (within-taken c.args.grid_file.now _ _ program_bytes _ _ _ _ _ (rw c.in-Ok.is at c.read_within.ensures)).good-factors

pub returns-in-Err : goal.returns-in-Err
unfolding statementOf
returns-in-Err c =
    let r = c.read_within in
    let a = c.args in
    let limits = length-replicate {A = ℕ} max_constraints 0 in
    let factors = length-replicate {A = ℤ} program_factors (pos 0) in
    puts_same (grid-refused a.grid_file.now _ _ _ limits factors _ _ _ (rw c.in-Err.is at r.ensures)) c.put_refused.ensures

pub returns-in-Ok : goal.returns-in-Ok
unfolding statementOf
returns-in-Ok c =
    let r = c.read_within in
    let a = c.args in
    let kept = c.of-table.ensures in
    puts_same (grid-text a.grid_file.now _ _ _ _ _ (within-taken a.grid_file.now _ _ program_bytes _ _ _ _ _ (rw c.in-Ok.is at r.ensures)))
    (rw (kept.nodes_kept, kept.constraints_kept, kept.cells_kept) at c.put_booked.ensures)
