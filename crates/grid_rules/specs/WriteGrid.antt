-- Writing a grid (document 01, "When input is turned down" and "The three files"; document 02, request 9).
use Rattle.std.specs.Prelude.{List, [], ◌∷◌, ℕ, ◌*◌, length, take, ℤ}
use Rattle.lists.specs.Lent.{Lent, before, after}
use Rattle.tariff.specs.Refusals.{Checked}
use Rattle.tariff.specs.Units.{grid_of}
use Rattle.tariff.specs.Refusals.{Check, first}
use Rattle.tariff.specs.Checks.{nodes_outside_of, constraint_count, limit_range, factor_range, short_table}
use Rattle.layouts.specs.Writing.{WriteAnswer}
use Rattle.layouts.specs.declared.forms.Form.{Form}
use Rattle.layouts.specs.Forms.{most_nodes_of}
use Rattle.layouts.specs.GridFile.{grid_bytes, grid_file}
use Rattle.layouts.specs.Writing.{Writes, WritesForC}

-- the form, the counts, the tables, and the place for the file as it is at entry
pub record WriteGridCall : Type 0 where
  pub form : Form
  pub nodes : ℕ
  pub constraints : ℕ
  pub limits : List ℕ
  pub factors : List ℤ
  pub place : List ℕ

abbrev pub write_grid_call : Form → ℕ → ℕ → List ℕ → List ℤ → List ℕ → WriteGridCall
write_grid_call f n k limits factors place = record { form = f; nodes = n; constraints = k; limits = limits; factors = factors; place = place }

module _ (q : WriteGridCall) where
  -- "2, 3, 9 (tables), 6, 7, then 9 if the bytes don't fit"; by request 9, "a narrow grid's writer refuses more than 200 nodes by 2"
  unfoldable pub write_grid_checks : List Check
  write_grid_checks =
      nodes_outside_of (most_nodes_of q.form) q.nodes
      ∷ constraint_count q.constraints
      ∷ short_table (length q.limits) q.constraints
      ∷ short_table (length q.factors) (q.nodes * q.constraints)
      ∷ limit_range (take q.constraints q.limits)
      ∷ factor_range (take (q.nodes * q.constraints) q.factors)
      ∷ short_table (length q.place) (grid_bytes q.form q.nodes q.constraints)
      ∷ []

  abbrev pub write_grid_checked : Checked
  write_grid_checked = first write_grid_checks

  -- the file written
  abbrev pub grid_written : List ℕ
  grid_written = grid_file q.form (grid_of q.nodes q.constraints q.limits q.factors)

-- the promise: the answer, and the place at exit
abbrev pub WritesGrid : WriteGridCall → WriteAnswer → List ℕ → Type 0
WritesGrid q answer exit = Writes (write_grid_checked q) (grid_written q) q.place answer exit

abbrev pub WritesGridForC : WriteGridCall → ℕ → List ℕ → Lent ℕ → Type 0
WritesGridForC q number exit bytes = WritesForC (write_grid_checked q) (grid_written q) q.place (before bytes) number exit (after bytes)
