-- THE THEOREM of the feasibility program's reading: two files that are each cut one byte past the largest length give the whole files' report.
use mathlib.Core.Path.{◌≡◌, ◌∙◌}
use mathlib.Core.List.{List}
use Prim.Native.Nat.{ℕ}
use native.Mathlib.Omega.{arith}
use lib.ListN.{take}
use Rattle.bits.specs.Bits.{Bytes}
use Rattle.text_files.specs.WithFiles.{with_grid}
use Rattle.text_files.proofs.Cut.{grid_cut, book_cut, cut-grid, cut-book}
use Rattle.text_report_rules.specs.Report.{report_lines}
use Rattle.text_report_rules.specs.WriteReport.{report}

pub report-cut : (g b : List ℕ) → Bytes g → Bytes b → report (take grid_cut g) (take book_cut b) ≡ report g b
unfolding report
report-cut g b gs bs =
    cut-grid g grid_cut gs (omega arith) _ ∙ (λ i. with_grid g (λ x. cut-book b book_cut bs (omega arith) x.factors.nodes (report_lines x) i))
