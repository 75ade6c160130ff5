-- `write_grid`: where no check refuses, the figures fit their fields and the bytes the file.
use mathlib.Core.Path.{sym, ◌∙◌}
use Rattle.grid_rules.specs.WriteGrid.{write_grid_call}
use Rattle.grid_rules.proofs.Passing.{writable}
use Rattle.grid_writing.proofs.write_grid.Goals as goal

pub of-table-requires : goal.of-table-requires
of-table-requires c =
    (writable (write_grid_call c.args.form c.args.nodes c.args.constraints c.args.limits.now c.args.factors.now c.args.file.now) (sym c.check_write.ensures
    ∙ c.in_ok-check_write.was)).good-factors

pub fill-requires : goal.fill-requires
fill-requires c =
    let kept = c.of-table.ensures in
    rw (kept.nodes_kept, kept.constraints_kept, kept.cells_kept)
    (writable (write_grid_call c.args.form c.args.nodes c.args.constraints c.args.limits.now c.args.factors.now c.args.file.now) (sym c.check_write.ensures
    ∙ c.in_ok-check_write.was))
