-- What holds of the figures of either form.
use mathlib.Core.Path.{◌≡◌, refl}
use Prim.Native.Nat.{ℕ, zero, suc, ◌*◌, ◌≤◌}
use native.Mathlib.Omega.{arith}
use Rattle.tariff.specs.Units.{max_nodes}
use Rattle.layouts.specs.declared.forms.Form.{Form}
use Rattle.layouts.specs.declared.forms.Form.TheVariants.{Narrow, Wide}
use Rattle.layouts.specs.Forms.{form_number, form_of, grid_header_bits_of, grid_header_bytes_of, most_nodes_of}

pub form-nonzero : (n : ℕ) → (n ≡ 0 → ⊥) → Wide ≡ form_of n
form-nonzero zero h = absurd (h refl)
form-nonzero (suc n) h = refl

pub form-of_number : (f : Form) → form_of (form_number f) ≡ f
form-of_number Narrow = refl
form-of_number Wide = refl

-- a grid's header: whole bytes, at least two
pub header-whole : (f : Form) → grid_header_bits_of f ≡ 8 * grid_header_bytes_of f
header-whole Narrow = refl
header-whole Wide = refl

pub header-most : (f : Form) → grid_header_bytes_of f ≤ 4
header-most Narrow = omega arith
header-most Wide = omega arith

pub header-least : (f : Form) → 2 ≤ grid_header_bytes_of f
header-least Narrow = omega arith
header-least Wide = omega arith

pub nodes-most : (f : Form) → most_nodes_of f ≤ max_nodes
nodes-most Narrow = omega arith
nodes-most Wide = omega arith
