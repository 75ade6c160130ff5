-- `read_grid`: where no check refuses, the file has its length and the tables their cells.
use mathlib.Core.Path.{sym, ◌∙◌}
use Rattle.tariff.proofs.Checks.{passed_append}
use Rattle.grid_rules.specs.ReadGrid.{read_grid_call, grid_size_checks, grid_file_checks, read_grid_checks}
use Rattle.grid_rules.proofs.Passing.{readable}
use Rattle.grid_reading.proofs.reading.read_grid.Goals as goal

pub of-grid-requires : goal.of-grid-requires
unfolding grid_file_checks read_grid_checks
of-grid-requires c =
    (passed_append (grid_size_checks c.args.file.now) _ (passed_append (grid_file_checks c.args.file.now) _ (sym c.check_read.ensures ∙ c.in_ok-check_read.was)).0).0

pub read_tables-requires : goal.read_tables-requires
read_tables-requires c =
    let r = readable (read_grid_call c.args.file.now c.args.limits.now c.args.factors.now) (sym c.check_read.ensures ∙ c.in_ok-check_read.was) in
    let counted = c.of-grid.result.counted in
    let kept = c.of-grid.ensures.bytes_kept in
    (rw (counted.constraints, kept) r.limit-room, rw (counted.nodes, counted.constraints, kept) r.factor-room)
