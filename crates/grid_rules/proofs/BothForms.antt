-- The two forms of a grid's file beside each other, and beside the reader of document 01.
use mathlib.Core.Path.{◌≡◌, refl, ap, ◌∙◌}
use mathlib.Core.Bool.{Bool, true, false}
use mathlib.Core.List.{List, map}
use Prim.Native.Nat.{ℕ, zero, suc, ◌+◌, ◌*◌, ◌^◌, ◌≤◌, ◌<◌}
use native.Mathlib.Omega.{arith}
use native.Mathlib.Nat.{mul-zero}
use borrow.Author.Tests.{ltb-true, ltb-false, lt-ltb, le-ltb}
use lib.Dec.{ltb}
use lib.ListN.{length, take}
use lib.IntN.{ℤ}
use lib.Seq.{take_all}
use Rattle.std.specs.Prelude.{Ok}
use Rattle.tariff.specs.Refusals.{passed}
use Rattle.tariff.specs.Units.{grid_of}
use Rattle.tariff.specs.Refusals.{first, number_after}
use Rattle.tariff.specs.Former.{former_first, by_number}
use Rattle.tariff.proofs.Former.{first-number}
use Rattle.layouts.specs.declared.forms.Form.{Form}
use Rattle.layouts.specs.declared.forms.Form.TheVariants.{Narrow, Wide}
use Rattle.layouts.specs.Forms.{grid_header_bytes_of}
use Rattle.layouts.specs.GridFile.{grid_file, grid_form_in, header_in, nodes_in, constraints_in_of, grid_in}
use Rattle.layouts.proofs.FormLaws.{header-whole, header-least}
use Rattle.layouts.proofs.GridHeader.{wide-header, node_width}
use Rattle.layouts.proofs.GridFile.{GridFits, grid-written}
use Rattle.grid_rules.specs.ReadGrid.{ReadGridCall, grid_size_checks, grid_figure_checks, grid_file_checks, read_grid_checks, read_grid_checked, program_bytes, program_factors}
use Rattle.grid_rules.specs.WriteGrid.{write_grid_call, write_grid_checked}
use Rattle.grid_rules.specs.Former.{former_grid_checks, ReadAsBefore}
use Rattle.grid_rules.proofs.Passing.{sized, writable, written-fits}

-- ---- the former reader

pub old-grid_reader_refuses_wide : (q : ReadGridCall) → 2 ≤ length q.file → grid_form_in q.file ≡ Wide → former_first (former_grid_checks q) ≡ 2
unfolding former_first former_grid_checks
old-grid_reader_refuses_wide q le e = rw (le-ltb (length q.file) 2 le, (wide-header q.file e).0)

-- the same lists where the form is narrow
narrow-list : (q : ReadGridCall) → grid_form_in q.file ≡ Narrow → map by_number (read_grid_checks q) ≡ former_grid_checks q
unfolding grid_size_checks grid_figure_checks grid_file_checks read_grid_checks former_grid_checks
narrow-list q e = rw e

short-number : (q : ReadGridCall) → length q.file < 2 → number_after (read_grid_checked q) ≡ former_first (former_grid_checks q)
unfolding grid_size_checks grid_file_checks read_grid_checks former_first former_grid_checks first
short-number q lt =
    let f = grid_form_in q.file in
    rw (lt-ltb (length q.file) 2 lt, lt-ltb (length q.file) (grid_header_bytes_of f) (omega (arith, lt, header-least f)))

pub narrow-grids_as_before : (q : ReadGridCall) → (2 ≤ length q.file → grid_form_in q.file ≡ Narrow) → number_after (read_grid_checked q) ≡ former_first (former_grid_checks q)
narrow-grids_as_before q narrow = by (ltb (length q.file) 2) refl
  where
    by : (b : Bool) → ltb (length q.file) 2 ≡ b → number_after (read_grid_checked q) ≡ former_first (former_grid_checks q)
    by true e = short-number q (ltb-true (length q.file) 2 e)
    by false e = first-number (read_grid_checks q) ∙ ap former_first (narrow-list q (narrow (ltb-false (length q.file) 2 e)))

pub narrow-values_as_before : (s : List ℕ) → grid_form_in s ≡ Narrow → ReadAsBefore s
narrow-values_as_before s e = record { nodes-as_before = rw e; limits-as_before = rw e; factors-as_before = rw e }

-- ---- both forms

-- what fits the narrow file fits the wide one
fits_both : (f : Form) (n k : ℕ) (ls : List ℕ) (fs : List ℤ) → GridFits Narrow n k ls fs → GridFits f n k ls fs
fits_both f n k ls fs g = record { nodes-fit = nodes f g.nodes-fit; constraints-fit = g.constraints-fit; body_fits = g.body_fits }
  where
    nodes : (f : Form) → n < 2 ^ 8 → n < 2 ^ node_width f
    nodes Narrow h = h
    nodes Wide h = omega arith

pub grid-in_file : (n k : ℕ) (limits : List ℕ) (factors : List ℤ) (place : List ℕ) → write_grid_checked (write_grid_call Narrow n k limits factors place) ≡ passed
    → (f : Form) → grid_in (grid_file f (grid_of n k limits factors)) ≡ grid_of n k limits factors
unfolding grid_file
grid-in_file n k limits factors place e f =
    let ls = take k limits in
    let fs = take (n * k) factors in
    let fit = written-fits Narrow n k limits factors place (writable (write_grid_call Narrow n k limits factors place) e) in
    let w = grid-written f n k ls fs (fits_both f n k ls fs fit) in
    rw (
      w.limits,
      w.factors,
      w.nodes,
      w.constraints,
      take_all k ls (omega (arith, fit.body_fits.one_limit_each)),
      take_all (n * k) fs (omega (arith, fit.body_fits.one_factor_each)),
    )

-- ---- in the program

few-factors : (h n k : ℕ) → 16 ≤ h → h + 27 * k + 18 * (n * k) ≤ 8 * program_bytes → n * k ≤ program_factors
few-factors h n zero least le = rw (mul-zero n) (omega arith)
few-factors h n (suc k) least le = omega arith

pub fits-the_program : (s : List ℕ) → first (grid_size_checks s) ≡ passed → length s ≤ program_bytes → nodes_in s * constraints_in_of s ≤ program_factors
fits-the_program s e le =
    let c = (sized s e).counted in
    few-factors (header_in s) (nodes_in s) (constraints_in_of s) (omega (arith, header-whole (grid_form_in s), header-least (grid_form_in s))) (omega (arith, c.size))
