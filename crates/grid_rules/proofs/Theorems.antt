-- THE THEOREMS of request 9 on grids. Statements only: the proofs are in BothForms.antt. The former list (`former_grid_checks`) is document 01's, by numbers.
use mathlib.Core.Path.{◌≡◌, sym, ◌∙◌}
use mathlib.Core.List.{List}
use Prim.Native.Nat.{ℕ, ◌*◌, ◌≤◌}
use lib.ListN.{length}
use lib.IntN.{ℤ}
use Rattle.std.specs.Prelude.{Ok}
use Rattle.tariff.specs.Refusals.{passed}
use Rattle.tariff.specs.Units.{grid_of}
use Rattle.tariff.specs.Refusals.{first, number_after}
use Rattle.tariff.specs.Former.{former_first}
use Rattle.layouts.specs.declared.forms.Form.TheVariants.{Narrow, Wide}
use Rattle.layouts.specs.GridFile.{grid_file, grid_form_in, nodes_in, constraints_in_of, grid_in}
use Rattle.grid_rules.specs.ReadGrid.{ReadGridCall, grid_size_checks, read_grid_checked, program_bytes, program_factors}
use Rattle.grid_rules.specs.WriteGrid.{write_grid_call, write_grid_checked}
use Rattle.grid_rules.specs.Former.{former_grid_checks, ReadAsBefore}
use Rattle.grid_rules.proofs.BothForms.{grid-in_file}
use Rattle.grid_rules.proofs.BothForms as B

-- "Old readers must refuse every wide file": by 2, whatever else it holds
pub old-grid_reader_refuses_wide : (q : ReadGridCall) → 2 ≤ length q.file → grid_form_in q.file ≡ Wide → former_first (former_grid_checks q) ≡ 2
old-grid_reader_refuses_wide = B.old-grid_reader_refuses_wide

-- every other file draws the number that it drew, and one that is narrow gives what it gave
pub narrow-grids_as_before : (q : ReadGridCall) → (2 ≤ length q.file → grid_form_in q.file ≡ Narrow)
    → number_after (read_grid_checked q) ≡ former_first (former_grid_checks q)
narrow-grids_as_before = B.narrow-grids_as_before

pub narrow-values_as_before : (s : List ℕ) → grid_form_in s ≡ Narrow → ReadAsBefore s
narrow-values_as_before = B.narrow-values_as_before

-- a grid that the narrow form takes is the same grid in either form
pub grids_alike : (n k : ℕ) (limits : List ℕ) (factors : List ℤ) (place : List ℕ) → write_grid_checked (write_grid_call Narrow n k limits factors place) ≡ passed
    → grid_in (grid_file Narrow (grid_of n k limits factors)) ≡ grid_in (grid_file Wide (grid_of n k limits factors))
grids_alike n k limits factors place e =
    grid-in_file n k limits factors place e Narrow ∙ sym (grid-in_file n k limits factors place e Wide)

-- the program's table of factors takes every grid of at most 32 KiB whose length is right
pub fits-the_program : (s : List ℕ) → first (grid_size_checks s) ≡ passed → length s ≤ program_bytes → nodes_in s * constraints_in_of s ≤ program_factors
fits-the_program = B.fits-the_program
