-- THE THEOREMS; the statements are in specs/Taken.antt.
use mathlib.Core.Path.{◌≡◌, refl}
use mathlib.Core.List.{List}
use Prim.Native.Nat.{ℕ}
use Rattle.tariff.specs.declared.refusals.Refusal.{Refusal}
use Rattle.std.specs.Prelude.{Err}
use Rattle.tariff.specs.Refusals.{first}
use Rattle.layouts.specs.GridFile.{grid_in}
use Rattle.grid_rules.specs.ReadGrid.{capped_checks, program_bytes}
use Rattle.book_rules.specs.BookChecks.{book_checks}
use Rattle.text_files.specs.WithFiles.{with_grid, with_book}
use Rattle.text_report_rules.specs.WriteReport.{report}
use Rattle.text_statement.specs.WriteStatement.{statement}
use Rattle.taken_files.specs.Taken.{LaterUnseen}

grid : (g : List ℕ) (r : Refusal) → first (capped_checks program_bytes g) ≡ Err r → (b p b' p' : List ℕ) → statement g b p ≡ statement g b' p'
unfolding statement with_grid
grid g r e b p b' p' = rw e refl

book : (g b : List ℕ) (r : Refusal) → first (book_checks (grid_in g).factors.nodes b) ≡ Err r → (p p' : List ℕ) → statement g b p ≡ statement g b p'
unfolding statement with_grid with_book
book g b r e p p' = rw e refl

reported : (g : List ℕ) (r : Refusal) → first (capped_checks program_bytes g) ≡ Err r → (b b' : List ℕ) → report g b ≡ report g b'
unfolding report with_grid
reported g r e b b' = rw e refl

pub later_unseen : LaterUnseen
later_unseen = record { behind_grid = grid; behind_book = book; reported_behind_grid = reported }
