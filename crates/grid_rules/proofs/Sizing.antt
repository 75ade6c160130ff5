-- The reader's checks up to the file's length, by what was found in its header.
use mathlib.Core.Path.{◌≡◌, refl, sym, ap, ◌∙◌}
use mathlib.Core.List.{List, [], ◌∷◌}
use Prim.Native.Nat.{ℕ, ◌≤◌}
use borrow.Author.Tests.{le-ltb}
use lib.ListN.{length}
use lib.IntN.{ℤ}
use Rattle.tariff.specs.declared.refusals.Refusal.{Refusal}
use Rattle.tariff.specs.Refusals.{Checked, passed}
use Rattle.std.specs.Prelude.{Ok, Err}
use Rattle.tariff.specs.Refusals.{Check, first, decided}
use Rattle.tariff.specs.Checks.{nodes_outside_of, constraint_count}
use Rattle.tariff.proofs.Checks.{first-append, first_passes}
use Rattle.layouts.specs.declared.forms.Form.{Form}
use Rattle.layouts.specs.Files.{short_file, spare_other, file_length, file_too_long}
use Rattle.layouts.specs.Forms.{grid_header_bytes_of, grid_spare_of, most_nodes_of}
use Rattle.layouts.specs.GridFile.{grid_bytes, grid_form_in, nodes_of, constraints_in_of, grid_spare_in}
use Rattle.grid_rules.specs.ReadGrid.{GridAnswer}
use Rattle.grid_rules.specs.ReadGrid.{ReadGridCall, grid_size_checks, grid_figure_checks, grid_file_checks, capped_checks, read_grid_checks, read_grid_checked, within_checks, ReadsBy}
use Rattle.grid_rules.specs.Inner.{figure_checks}

abbrev pub size_by : Form → ℕ → ℕ → List ℕ → List Check
size_by f n k s =
    short_file s (grid_header_bytes_of f)
    ∷ nodes_outside_of (most_nodes_of f) n
    ∷ constraint_count k
    ∷ spare_other (grid_spare_of f) (grid_spare_in s)
    ∷ file_length s (grid_bytes f n k)
    ∷ []

pub size-checks : (s : List ℕ) (f : Form) (n k : ℕ) → f ≡ grid_form_in s → n ≡ nodes_of f s → k ≡ constraints_in_of s → first (grid_size_checks s) ≡ first (size_by f n k s)
unfolding grid_size_checks
size-checks s f n k form nodes constraints = rw (nodes, constraints, form)

-- all of the reader's checks: those, and then the figures'; within so many bytes, the length's again between them
pub within-checks : (most : ℕ) (q : ReadGridCall) (x : Checked) → first (grid_size_checks q.file) ≡ x
    → first (within_checks q most) ≡ decided x Err (first (file_too_long q.file most ∷ figure_checks q.file q.limits q.factors))
unfolding grid_size_checks grid_figure_checks capped_checks within_checks figure_checks
within-checks most q x e =
    let behind = file_too_long q.file most ∷ figure_checks q.file q.limits q.factors in
    first-append (grid_size_checks q.file) behind ∙ ap (λ (y : Checked). decided y Err (first behind)) e

pub read_checks : (q : ReadGridCall) (x : Checked) → first (grid_size_checks q.file) ≡ x
    → read_grid_checked q ≡ decided x Err (first (figure_checks q.file q.limits q.factors))
unfolding grid_size_checks grid_figure_checks grid_file_checks read_grid_checks figure_checks
read_checks q x e =
    first-append (grid_size_checks q.file) (figure_checks q.file q.limits q.factors)
    ∙ ap (λ (y : Checked). decided y Err (first (figure_checks q.file q.limits q.factors))) e

-- a file that is not too long is read as any other
pub reads_alike : (c d : Checked) (q : ReadGridCall) (a : GridAnswer) (ls : List ℕ) (fs : List ℤ) → c ≡ d → ReadsBy d q a ls fs → ReadsBy c q a ls fs
reads_alike c d q a ls fs e h = rw e h

pub within-passes : (most : ℕ) (q : ReadGridCall) → first (grid_size_checks q.file) ≡ passed → length q.file ≤ most → first (within_checks q most) ≡ read_grid_checked q
within-passes most q e le =
    within-checks most q passed e ∙ first_passes _ _ (le-ltb most (length q.file) le) ∙ sym (read_checks q passed e)

pub reads_refused : (c : Checked) (q : ReadGridCall) (r : Refusal) → c ≡ Err r → ReadsBy c q (Err r) q.limits q.factors
reads_refused c q r e =
    reads_alike c (Err r) q (Err r) q.limits q.factors e (record { values-given = refl; limits-read = refl; factors-read = refl })
