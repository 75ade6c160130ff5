-- Reading a grid (document 01, "When input is turned down" and "The three files"; document 02, request 9): what is handed in, the checks in order, what is
-- given, the promise.
use Rattle.std.specs.Prelude.{◌≡◌, List, [], ◌∷◌, ◌++◌, ℕ, ◌*◌, length, ℤ, pos, Ok, Err, Result}
use Rattle.lists.specs.Lent.{Lent, before, after}
use Rattle.tariff.specs.Refusals.{Checked}
use Rattle.tariff.specs.Refusals.{Check, first, Outcome, given, refused_by, answered, cells_after, cell_after, number_after}
use Rattle.tariff.specs.Checks.{nodes_outside_of, constraint_count, limit_range, factor_range, short_table}
use Rattle.layouts.specs.declared.forms.Form.{Form}
use Rattle.layouts.specs.Files.{short_file, spare_other, file_length, file_too_long, padding}
use Rattle.layouts.specs.Forms.{form_number, grid_header_bytes_of, grid_spare_of, most_nodes_of}
use Rattle.layouts.specs.GridFile.{grid_bytes, grid_form_in, nodes_in, constraints_in_of, grid_spare_in, limits_in, factors_in, grid_pad_in}
use Rattle.tariff.specs.declared.refusals.Refusal.{Refusal}
use Rattle.grid_rules.specs.declared.GridRead.{GridRead}

-- the file, and the lent tables as they are at entry
pub record ReadGridCall : Type 0 where
  pub file : List ℕ
  pub limits : List ℕ
  pub factors : List ℤ

abbrev pub read_grid_call : List ℕ → List ℕ → List ℤ → ReadGridCall
read_grid_call file limits factors = record { file = file; limits = limits; factors = factors }

-- what reading a grid's file answers: its counts and form, or the refusal
abbrev pub GridAnswer : Type 0
GridAnswer = Result GridRead Refusal

abbrev pub grid_read : ℕ → ℕ → Form → GridAnswer
grid_read n k f = Ok (record { nodes = n; constraints = k; form = f })

-- the counts and the form read, or the refusal's number
abbrev pub grid_outcome : GridAnswer → Outcome
grid_outcome (Ok found) = given (pos found.nodes ∷ pos found.constraints ∷ pos (form_number found.form) ∷ [])
grid_outcome (Err r) = refused_by r

-- the file's own: "1: under two bytes. 2: nodes 0 or above 200. 3: constraints above 64. 4: spare bit set. 5: length differs from what the counts fix.",
-- and by request 9 "a wide grid under four bytes draws 1", "Refusal 2 now means outside 1 to 4,000 for wide grids", "4 means spare bits other than the two patterns"
unfoldable pub grid_size_checks : List ℕ → List Check
grid_size_checks file =
    short_file file (grid_header_bytes_of (grid_form_in file))
    ∷ nodes_outside_of (most_nodes_of (grid_form_in file)) (nodes_in file)
    ∷ constraint_count (constraints_in_of file)
    ∷ spare_other (grid_spare_of (grid_form_in file)) (grid_spare_in file)
    ∷ file_length file (grid_bytes (grid_form_in file) (nodes_in file) (constraints_in_of file))
    ∷ []

-- "6: a limit too large. 7: a factor out of range. 8: a padding bit set."
unfoldable pub grid_figure_checks : List ℕ → List Check
grid_figure_checks file = limit_range (limits_in file) ∷ factor_range (factors_in file) ∷ padding (grid_pad_in file) ∷ []

unfoldable pub grid_file_checks : List ℕ → List Check
grid_file_checks file = grid_size_checks file ++ grid_figure_checks file

-- "The program takes grids up to 32 KiB", which have at most so many factors (`fits-the_program`)
abbrev pub program_bytes : ℕ
program_bytes = 32768

abbrev pub program_factors : ℕ
program_factors = 14561

-- the file's own of a file of at most so many bytes: "a longer one draws 5 if no earlier check does"
unfoldable pub capped_checks : ℕ → List ℕ → List Check
capped_checks most file = grid_size_checks file ++ file_too_long file most ∷ grid_figure_checks file

module _ (q : ReadGridCall) where
  -- then "9: a lent table too short"
  unfoldable pub read_grid_checks : List Check
  read_grid_checks =
      grid_file_checks q.file
      ++ short_table (length q.limits) (constraints_in_of q.file)
      ∷ short_table (length q.factors) (nodes_in q.file * constraints_in_of q.file)
      ∷ []

  abbrev pub read_grid_checked : Checked
  read_grid_checked = first read_grid_checks

  -- the same of a file of at most so many bytes
  unfoldable pub within_checks : ℕ → List Check
  within_checks most =
      capped_checks most q.file
      ++ short_table (length q.limits) (constraints_in_of q.file)
      ∷ short_table (length q.factors) (nodes_in q.file * constraints_in_of q.file)
      ∷ []

  abbrev pub grid_values : List ℤ
  grid_values = pos (nodes_in q.file) ∷ pos (constraints_in_of q.file) ∷ pos (form_number (grid_form_in q.file)) ∷ []

-- the promise, by what the checks found: the answer, and the tables at exit
pub record ReadsBy (checked : Checked) (q : ReadGridCall) (answer : GridAnswer) (limits : List ℕ) (factors : List ℤ) : Type 0 where
  pub values-given : grid_outcome answer ≡ answered checked (grid_values q)
  pub limits-read : limits ≡ cells_after checked (limits_in q.file) q.limits
  pub factors-read : factors ≡ cells_after checked (factors_in q.file) q.factors

abbrev pub ReadsGrid : ReadGridCall → GridAnswer → List ℕ → List ℤ → Type 0
ReadsGrid q = ReadsBy (read_grid_checked q) q

abbrev pub ReadsWithin : ℕ → ReadGridCall → GridAnswer → List ℕ → List ℤ → Type 0
ReadsWithin most q = ReadsBy (first (within_checks q most)) q

-- the same for C: the refusal's number, and the counts and the form's number in lent figures
pub record ReadsGridForC (q : ReadGridCall) (number : ℕ) (limits : List ℕ) (factors : List ℤ) (nodes constraints form : Lent ℕ) : Type 0 where
  pub refusal-number : number ≡ number_after (read_grid_checked q)
  pub limits-read : limits ≡ cells_after (read_grid_checked q) (limits_in q.file) q.limits
  pub factors-read : factors ≡ cells_after (read_grid_checked q) (factors_in q.file) q.factors
  pub nodes-given : after nodes ≡ cell_after (read_grid_checked q) (nodes_in q.file) (before nodes)
  pub constraints-given : after constraints ≡ cell_after (read_grid_checked q) (constraints_in_of q.file) (before constraints)
  pub form-given : after form ≡ cell_after (read_grid_checked q) (form_number (grid_form_in q.file)) (before form)
