-- `put_report`.
-- the tables before the reader fills them
use Rattle.grid_rules.specs.ReadGrid.{GridAnswer, grid_read}
use Rattle.layouts.specs.declared.forms.Form.{Form}
use mathlib.Core.Path.{◌≡◌}
use mathlib.Core.List.{List}
use Prim.Native.Nat.{ℕ}
use lib.ListN.{length, replicate, length-replicate}
use lib.IntN.{ℤ, pos}
use Rattle.text_format.proofs.Putting.{puts_same}
use Rattle.tariff.specs.Units.{max_constraints}
use Rattle.text_files.proofs.WithFiles.{grid-refused, grid-text}
use Rattle.grid_rules.specs.ReadGrid.{capped_checks, program_bytes, program_factors, ReadsWithin, read_grid_call}
use Rattle.grid_rules.proofs.Taken.{GridTaken, within-taken}
use Rattle.text_report_rules.specs.WriteReport.{report}
use Rattle.text_report.proofs.put_report.Goals as goal

cells : List ℕ
cells = replicate max_constraints 0

places : List ℤ
places = replicate program_factors (pos 0)

cells-long : length cells ≡ max_constraints
unfolding cells
cells-long = length-replicate {A = ℕ} max_constraints 0

places-long : length places ≡ program_factors
unfolding places
places-long = length-replicate {A = ℤ} program_factors (pos 0)

-- the tables as the reader left them
taken : (file : List ℕ) → (nodes constraints : ℕ) → (form : Form) → (limits : List ℕ) → (factors : List ℤ) → (answer : GridAnswer) → answer ≡ grid_read nodes constraints form
    → ReadsWithin program_bytes (read_grid_call file cells places) answer limits factors → GridTaken (capped_checks program_bytes file) file nodes constraints limits factors
taken file nodes constraints form limits factors answer told reads = within-taken _ cells places program_bytes _ _ _ _ _ (rw told at reads)

pub of-grid-requires : goal.of-grid-requires
unfolding cells places
of-grid-requires c =
    let t = taken _ c.in-Ok.read.nodes c.in-Ok.read.constraints _ _ _ _ c.in-Ok.is c.read_within.ensures in
    (t.good-limits, t.good-factors)

pub returns-in-Err : goal.returns-in-Err
unfolding report cells places
returns-in-Err c =
    let r = c.read_within in
    puts_same (grid-refused _ _ cells places cells-long places-long _ _ _ (rw c.in-Err.is at r.ensures)) c.put_refused.ensures

pub returns-in-Ok : goal.returns-in-Ok
unfolding report cells places
returns-in-Ok c = puts_same (grid-text _ _ _ _ _ _ (taken _ c.in-Ok.read.nodes c.in-Ok.read.constraints _ _ _ _ c.in-Ok.is c.read_within.ensures))
    (let kept = c.of-grid.ensures in rw (kept.nodes_kept, kept.constraints_kept, kept.limits_kept, kept.factors_kept) at c.put_tested.ensures)
