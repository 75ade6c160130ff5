-- `check_size`: each return by the tests that led there.
-- the form and the counts found, and the checks by them
use Rattle.tariff.specs.Units.{max_constraints}
use mathlib.Core.Bool.{Bool, false}
use Rattle.layouts.specs.declared.forms.Form.{Form}
use mathlib.Core.Path.{◌≡◌, sym, ◌∙◌}
use mathlib.Core.List.{List}
use Prim.Native.Nat.{ℕ, ◌≤◌}
use native.Mathlib.Omega.{arith}
use borrow.Author.Tests.{lt-ltb, le-ltb}
use lib.ListN.{length, drop}
use Rattle.tariff.specs.Refusals.{first}
use Rattle.tariff.specs.Checks.{nodes_outside_of}
use Rattle.tariff.proofs.Checks.{first_passes, first-refuses, nodes-within, differs, same, last-passes}
use Rattle.layouts.specs.Forms.{grid_header_bytes_of, most_nodes_of, grid_spare_of}
use Rattle.layouts.specs.GridFile.{grid_form_in, nodes_of, constraints_in_of, grid_spare_in}
use Rattle.layouts.proofs.FormLaws.{header-least, nodes-most}
use Rattle.grid_rules.specs.ReadGrid.{grid_size_checks}
use Rattle.grid_rules.specs.Inner.{GoodCounts}
use Rattle.grid_rules.proofs.Passing.{short-header}
use Rattle.grid_rules.proofs.Sizing.{size_by, size-checks}
use Rattle.grid_checks.proofs.check_size.Goals as goal

-- past each test that did not hold, the checks behind it are left
module _ (s : List ℕ) (f : Form) (n k : ℕ) (form : f ≡ grid_form_in s) (nodes : n ≡ nodes_of f s) (constraints : k ≡ constraints_in_of s)
    (long : grid_header_bytes_of f ≤ length s) where
  past : first (grid_size_checks s) ≡ first (drop 1 (size_by f n k s))
  past = size-checks s f n k form nodes constraints ∙ first_passes _ _ (le-ltb _ _ long)

  past-2 : (nodes_outside_of (most_nodes_of f) n).fails ≡ false → first (grid_size_checks s) ≡ first (drop 2 (size_by f n k s))
  past-2 within = past ∙ first_passes _ _ within

  past-3 : (nodes_outside_of (most_nodes_of f) n).fails ≡ false → k ≤ max_constraints → first (grid_size_checks s) ≡ first (drop 3 (size_by f n k s))
  past-3 within few = past-2 within ∙ first_passes _ _ (le-ltb _ _ few)

  past-4 : (nodes_outside_of (most_nodes_of f) n).fails ≡ false → k ≤ max_constraints → grid_spare_in s ≡ grid_spare_of f
      → first (grid_size_checks s) ≡ first (drop 4 (size_by f n k s))
  past-4 within few spare = past-3 within few ∙ first_passes _ _ (same _ _ spare)

-- the count tested is the file's, by its form
bad : (f : Form) (n most : ℕ) (b : Bool) → most ≡ most_nodes_of f → b ≡ (nodes_outside_of most n).fails → b ≡ (nodes_outside_of (most_nodes_of f) n).fails
bad f n most b e is = rw e at is

-- counts that passed
good : (f : Form) (n k : ℕ) → (nodes_outside_of (most_nodes_of f) n).fails ≡ false → k ≤ max_constraints → GoodCounts n k
good f n k within few = record { nodes-few = omega (arith, nodes-within (most_nodes_of f) n within, nodes-most f); few = few }

pub returns-then-file-lt-FORM_BYTES : goal.returns-then-file-lt-FORM_BYTES
unfolding grid_size_checks
returns-then-file-lt-FORM_BYTES c =
    let s = c.args.file.now in
    sym (first-refuses _ _ (lt-ltb (length s) (grid_header_bytes_of (grid_form_in s)) (omega (arith, c.if-file-lt-FORM_BYTES.true, header-least (grid_form_in s)))))

pub returns-then-file-grid_header_bytes : goal.returns-then-file-grid_header_bytes
unfolding grid_size_checks
returns-then-file-grid_header_bytes c =
    sym (first-refuses _ _ (lt-ltb _ _ (rw (c.grid_header_bytes.ensures, c.form_in-form.ensures) at c.if-file-grid_header_bytes.true)))

pub returns-then-nodes_outside : goal.returns-then-nodes_outside
returns-then-nodes_outside c = sym (past c.args.file.now c.form_in-form.result c.nodes_in-nodes.result c.constraints_in-constraints.result c.form_in-form.ensures
    c.nodes_in-nodes.ensures c.constraints_in-constraints.ensures (rw c.grid_header_bytes.ensures at c.if-file-grid_header_bytes.false)
    ∙ first-refuses _ _ (sym (bad c.form_in-form.result c.nodes_in-nodes.result _ _ c.most_nodes.ensures c.nodes_outside.ensures) ∙ c.if-nodes_outside.true))

pub returns-then-constraints-gt-MAX_CONSTRAINTS : goal.returns-then-constraints-gt-MAX_CONSTRAINTS
returns-then-constraints-gt-MAX_CONSTRAINTS c = sym (past-2 c.args.file.now c.form_in-form.result c.nodes_in-nodes.result c.constraints_in-constraints.result
    c.form_in-form.ensures c.nodes_in-nodes.ensures c.constraints_in-constraints.ensures (rw c.grid_header_bytes.ensures at c.if-file-grid_header_bytes.false)
    (sym (bad c.form_in-form.result c.nodes_in-nodes.result _ _ c.most_nodes.ensures c.nodes_outside.ensures) ∙ c.if-nodes_outside.false)
    ∙ first-refuses _ _ (lt-ltb _ _ c.if-constraints-gt-MAX_CONSTRAINTS.true))

pub returns-then-field-grid_spare : goal.returns-then-field-grid_spare
returns-then-field-grid_spare c = sym (past-3 c.args.file.now c.form_in-form.result c.nodes_in-nodes.result c.constraints_in-constraints.result
    c.form_in-form.ensures c.nodes_in-nodes.ensures c.constraints_in-constraints.ensures (rw c.grid_header_bytes.ensures at c.if-file-grid_header_bytes.false)
    (sym (bad c.form_in-form.result c.nodes_in-nodes.result _ _ c.most_nodes.ensures c.nodes_outside.ensures) ∙ c.if-nodes_outside.false)
    c.if-constraints-gt-MAX_CONSTRAINTS.false
    ∙ first-refuses _ _ (differs _ _ (rw (c.field.ensures.0, c.grid_spare.ensures) at c.if-field-grid_spare.true)))

pub invariant_of-size : goal.invariant_of-size
invariant_of-size c =
    let within = sym (bad c.form_in-form.result c.nodes_in-nodes.result _ _ c.most_nodes.ensures c.nodes_outside.ensures) ∙ c.if-nodes_outside.false in
    record {
      good = (
        rw c.grid_header_bits.ensures (short-header c.form_in-form.result),
        good c.form_in-form.result _ _ within c.if-constraints-gt-MAX_CONSTRAINTS.false,
      );
    }

pub returns-then-file-file_bytes : goal.returns-then-file-file_bytes
returns-then-file-file_bytes c = sym (past-4 c.args.file.now c.form_in-form.result c.nodes_in-nodes.result c.constraints_in-constraints.result c.form_in-form.ensures
    c.nodes_in-nodes.ensures c.constraints_in-constraints.ensures (rw c.grid_header_bytes.ensures at c.if-file-grid_header_bytes.false)
    (sym (bad c.form_in-form.result c.nodes_in-nodes.result _ _ c.most_nodes.ensures c.nodes_outside.ensures) ∙ c.if-nodes_outside.false)
    c.if-constraints-gt-MAX_CONSTRAINTS.false (sym c.field.ensures.0 ∙ c.if-field-grid_spare.false ∙ c.grid_spare.ensures)
    ∙ first-refuses _ _ (differs _ _ (rw (c.file_bytes.ensures.0, c.grid_header_bits.ensures) at c.if-file-file_bytes.true)))

pub returns : goal.returns
returns c = sym (past-4 c.args.file.now c.form_in-form.result c.nodes_in-nodes.result c.constraints_in-constraints.result c.form_in-form.ensures
    c.nodes_in-nodes.ensures c.constraints_in-constraints.ensures (rw c.grid_header_bytes.ensures at c.if-file-grid_header_bytes.false)
    (sym (bad c.form_in-form.result c.nodes_in-nodes.result _ _ c.most_nodes.ensures c.nodes_outside.ensures) ∙ c.if-nodes_outside.false)
    c.if-constraints-gt-MAX_CONSTRAINTS.false (sym c.field.ensures.0 ∙ c.if-field-grid_spare.false ∙ c.grid_spare.ensures)
    ∙ last-passes _ (same _ _ (rw (c.file_bytes.ensures.0, c.grid_header_bits.ensures) at c.if-file-file_bytes.false)))
