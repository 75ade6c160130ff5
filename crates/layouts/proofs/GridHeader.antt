-- A grid's header in each form: its bits, and what the readers find in it.
use mathlib.Core.Path.{◌≡◌, refl, sym}
use mathlib.Core.Bool.{Bool, true, false, cond, ◌&&◌}
use mathlib.Core.List.{List}
use Prim.Native.Nat.{ℕ, ◌^◌, ◌<◌, ◌≤◌}
use native.Mathlib.Omega.{arith}
use borrow.Author.Tests.{eqb-true, ne_eqb}
use lib.Dec.{eqb}
use Rattle.bits.specs.Fields.{total_width}
use Rattle.bits.specs.Inner.{Fit, HoldsFields}
use Rattle.layouts.specs.declared.forms.Form.{Form}
use Rattle.layouts.specs.declared.forms.Form.TheVariants.{Narrow, Wide}
use Rattle.layouts.specs.Forms.{grid_spare_of, grid_header_bits_of, most_nodes_of}
use Rattle.layouts.specs.GridFile.{grid_header, grid_form_in, node_field_in, nodes_of, nodes_in, constraints_in_of, grid_spare_in}

-- ---- the form found in bytes

module _ (s : List ℕ) where
  pub form-is_wide : node_field_in s ≡ 0 → grid_spare_in s ≡ 1 → Wide ≡ grid_form_in s
  unfolding grid_form_in
  form-is_wide n p = rw (n, p)

  pub form-by_nodes : (node_field_in s ≡ 0 → ⊥) → Narrow ≡ grid_form_in s
  unfolding grid_form_in
  form-by_nodes h = rw (ne_eqb (node_field_in s) 0 h)

  pub form-by_spare : (grid_spare_in s ≡ 1 → ⊥) → Narrow ≡ grid_form_in s
  unfolding grid_form_in
  form-by_spare h = by (eqb (node_field_in s) 0)
    where
      by : (b : Bool) → Narrow ≡ cond (b && eqb (grid_spare_in s) 1) Wide Narrow
      by true = rw (ne_eqb (grid_spare_in s) 1 h)
      by false = refl

  -- what a wide file's first two bytes hold
  pub wide-header : grid_form_in s ≡ Wide → (node_field_in s ≡ 0) × (grid_spare_in s ≡ 1)
  unfolding grid_form_in
  wide-header e = by (eqb (node_field_in s) 0) (eqb (grid_spare_in s) 1) refl refl e
    where
      by : (a b : Bool) → eqb (node_field_in s) 0 ≡ a → eqb (grid_spare_in s) 1 ≡ b → cond (a && b) Wide Narrow ≡ Wide → (node_field_in s ≡ 0) × (grid_spare_in s ≡ 1)
      by true true n p e = (eqb-true _ _ n, eqb-true _ _ p)
      by true false n p e = (cc, cc)
      by false b n p e = (cc, cc)

-- ---- the header

-- the bits of its node count
abbrev pub node_width : Form → ℕ
node_width Narrow = 8
node_width Wide = 16

pub most-nodes_fit : (f : Form) (n : ℕ) → n ≤ most_nodes_of f → n < 2 ^ node_width f
most-nodes_fit Narrow n h = omega arith
most-nodes_fit Wide n h = omega arith

pub header-total : (f : Form) (n k : ℕ) → total_width (grid_header f n k) ≡ grid_header_bits_of f
unfolding grid_header
header-total Narrow n k = refl
header-total Wide n k = refl

pub header-fit : (f : Form) (n k : ℕ) → n < 2 ^ node_width f → k < 2 ^ 7 → Fit (grid_header f n k)
unfolding grid_header
header-fit Narrow n k h j = (h, (j, (omega arith, tt)))
header-fit Wide n k h j = (omega arith, (j, (omega arith, (h, tt))))

-- bytes that hold the header: what each reader finds in them
pub record HeaderFound (f : Form) (n k : ℕ) (s : List ℕ) : Type 0 where
  pub form : grid_form_in s ≡ f
  pub nodes : nodes_in s ≡ n
  pub constraints : constraints_in_of s ≡ k
  pub spare : grid_spare_in s ≡ grid_spare_of f

pub header-found : (f : Form) (n k : ℕ) (s : List ℕ) → HoldsFields s 0 (grid_header f n k) → HeaderFound f n k s
unfolding grid_header
header-found Narrow n k s h =
    let form : grid_form_in s ≡ Narrow = sym (form-by_spare s (λ e. omega (arith, h.1.1.0))) in
    record { form = form; nodes = rw form h.0; constraints = h.1.0; spare = h.1.1.0 }
header-found Wide n k s h =
    let form : grid_form_in s ≡ Wide = sym (form-is_wide s h.0 h.1.1.0) in
    record { form = form; nodes = rw form h.1.1.1.0; constraints = h.1.0; spare = h.1.1.0 }

-- and bytes whose spare bit is the form's hold the header
pub header-holds : (s : List ℕ) → grid_spare_in s ≡ grid_spare_of (grid_form_in s) → HoldsFields s 0 (grid_header (grid_form_in s) (nodes_in s) (constraints_in_of s))
unfolding grid_header
header-holds s e = by (grid_form_in s) refl e
  where
    by : (f : Form) → grid_form_in s ≡ f → grid_spare_in s ≡ grid_spare_of f → HoldsFields s 0 (grid_header f (nodes_of f s) (constraints_in_of s))
    by Narrow q p = (refl, (refl, (p, tt)))
    by Wide q p = ((wide-header s q).0, (refl, (p, (refl, tt))))
