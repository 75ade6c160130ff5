-- A grid's file there and back, over what the entries ensure: bytes that no check of the reader refuses are the file of the grid that is read from them, and
-- a file that is written is not refused and gives the grid's own form, counts and tables.
use mathlib.Core.Path.{◌≡◌, ◌∙◌}
use mathlib.Core.Bool.{false}
use mathlib.Core.List.{List}
use Prim.Native.Nat.{ℕ, ◌*◌, ◌≤◌}
use native.Mathlib.Omega.{arith}
use borrow.Author.Tests.{le-ltb}
use lib.ListN.{length, take}
use lib.IntN.{ℤ}
use Rattle.bits.proofs.Numbers.{Below}
use Rattle.std.specs.Prelude.{Ok}
use Rattle.tariff.specs.Refusals.{passed}
use Rattle.tariff.specs.Checks.{nodes_outside_of}
use Rattle.tariff.proofs.Checks.{first_passes, passed_cons, same, last-passes}
use Rattle.layouts.specs.declared.forms.Form.{Form}
use Rattle.layouts.specs.Forms.{grid_header_bytes_of, grid_spare_of, most_nodes_of}
use Rattle.layouts.specs.GridFile.{grid_bytes, grid_file, grid_form_in, grid_in, nodes_in, constraints_in_of, grid_spare_in, limits_in, factors_in}
use Rattle.layouts.proofs.FormLaws.{header-whole}
use Rattle.layouts.proofs.GridFile.{GridWritten, grid-written, grid-file_read}
use Rattle.grid_rules.specs.ReadGrid.{ReadGridCall, read_grid_call, grid_size_checks, grid_figure_checks, grid_file_checks, read_grid_checks, read_grid_checked}
use Rattle.grid_rules.specs.WriteGrid.{WriteGridCall, write_grid_checks, write_grid_checked, grid_written}
use Rattle.grid_rules.proofs.Passing.{readable, writable, written-fits}

-- ---- read, then written

pub read_then_written : (q : ReadGridCall) → Below 8 q.file → read_grid_checked q ≡ passed → grid_file (grid_form_in q.file) (grid_in q.file) ≡ q.file
read_then_written q b e =
    let ok = readable q e in
    grid-file_read q.file b ok.file-sized.counted.size ok.file-sized.spare ok.pad

-- ---- written, then read

-- what the reader finds in a file: it is not refused where the tables are long enough
pub record ReadBack (f : Form) (n k : ℕ) (limits : List ℕ) (factors : List ℤ) (s : List ℕ) : Type 0 where
  pub passes : (ls : List ℕ) (fs : List ℤ) → k ≤ length ls → n * k ≤ length fs → read_grid_checked (read_grid_call s ls fs) ≡ passed
  pub form-is : grid_form_in s ≡ f
  pub nodes : nodes_in s ≡ n
  pub constraints : constraints_in_of s ≡ k
  pub limits-are : limits_in s ≡ take k limits
  pub factors-are : factors_in s ≡ take (n * k) factors

module _ (q : WriteGridCall) (e : write_grid_checked q ≡ passed) where
  found : GridWritten q.form q.nodes q.constraints (take q.constraints q.limits) (take (q.nodes * q.constraints) q.factors) (grid_written q)
  unfolding grid_file
  found = grid-written _ _ _ _ _ (written-fits q.form q.nodes q.constraints q.limits q.factors q.place (writable q e))

  -- each check of the reader is one that the writer made, or is settled by the file
  not_refused : (ls : List ℕ) (fs : List ℤ) → q.constraints ≤ length ls → q.nodes * q.constraints ≤ length fs → read_grid_checked (read_grid_call (grid_written q) ls fs) ≡ passed
  unfolding grid_size_checks grid_figure_checks grid_file_checks read_grid_checks write_grid_checks
  not_refused ls fs h j =
      let s = grid_written q in
      let header : grid_header_bytes_of (grid_form_in s) ≤ length s = rw found.form (omega (arith, found.size, header-whole q.form)) in
      let nodes : (nodes_outside_of (most_nodes_of (grid_form_in s)) (nodes_in s)).fails ≡ false = rw (found.nodes, found.form) (passed_cons _ _ e).0 in
      let spare : grid_spare_in s ≡ grid_spare_of (grid_form_in s) = rw found.form found.spare in
      let size : length s ≡ grid_bytes (grid_form_in s) (nodes_in s) (constraints_in_of s) = rw (found.nodes, found.form, found.constraints) found.size in
      let wide : constraints_in_of s ≤ length ls = rw found.constraints h in
      let wider : nodes_in s * constraints_in_of s ≤ length fs = rw (found.nodes, found.constraints) j in
      let three = passed_cons _ _ (passed_cons _ _ e).1 in
      let six = passed_cons _ _ (passed_cons _ _ (passed_cons _ _ three.1).1).1 in
      let seven = passed_cons _ _ six.1 in
      first_passes _ _ (le-ltb (length s) (grid_header_bytes_of (grid_form_in s)) header)
      ∙ first_passes _ _ nodes
      ∙ first_passes _ _ (rw found.constraints three.0)
      ∙ first_passes _ _ (same _ _ spare)
      ∙ first_passes _ _ (same _ _ size)
      ∙ first_passes _ _ (rw found.limits six.0)
      ∙ first_passes _ _ (rw found.factors seven.0)
      ∙ first_passes _ _ (same _ _ found.pad)
      ∙ first_passes _ _ (le-ltb _ _ wide)
      ∙ last-passes _ (le-ltb _ _ wider)

  pub written-then_read : ReadBack q.form q.nodes q.constraints q.limits q.factors (grid_written q)
  written-then_read = record { passes = not_refused; form-is = found.form; nodes = found.nodes; constraints = found.constraints; limits-are = found.limits; factors-are = found.factors }
