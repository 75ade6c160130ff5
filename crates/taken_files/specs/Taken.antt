-- Document 01, "The hour statement": "the files are taken in that order". A program looks at a file only when those before it were taken; what it prints does not
-- depend on the others.
use Rattle.std.specs.Prelude.{◌≡◌, Bool, true, false, List, ℕ, Err}
use Rattle.tariff.specs.declared.refusals.Refusal.{Refusal}
use Rattle.tariff.specs.Refusals.{first, decided}
use Rattle.layouts.specs.GridFile.{grid_in}
use Rattle.grid_rules.specs.ReadGrid.{capped_checks, program_bytes}
use Rattle.book_rules.specs.BookChecks.{book_checks}
use Rattle.text_report_rules.specs.WriteReport.{report}
use Rattle.text_statement.specs.WriteStatement.{statement}

-- the node count of a grid's file that is taken, and 0 of one that is refused
abbrev pub nodes_taken_of : List ℕ → ℕ
nodes_taken_of file = decided (first (capped_checks program_bytes file)) (λ r. 0) (grid_in file).factors.nodes

-- whether a book's file is taken, for a grid of n nodes
abbrev pub book_taken_of : ℕ → List ℕ → Bool
book_taken_of n file = decided (first (book_checks n file)) (λ r. false) true

-- THE STATEMENTS: behind a file that is refused any other files give the same text
pub record LaterUnseen : Type 0 where
  pub behind_grid : (g : List ℕ) (r : Refusal) → first (capped_checks program_bytes g) ≡ Err r → (b p b' p' : List ℕ) → statement g b p ≡ statement g b' p'
  pub behind_book : (g b : List ℕ) (r : Refusal) → first (book_checks (grid_in g).factors.nodes b) ≡ Err r → (p p' : List ℕ) → statement g b p ≡ statement g b p'
  pub reported_behind_grid : (g : List ℕ) (r : Refusal) → first (capped_checks program_bytes g) ≡ Err r → (b b' : List ℕ) → report g b ≡ report g b'
