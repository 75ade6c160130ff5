-- Document 01, "The three files", grid: nodes 8 bits, constraints 7, spare 1; a limit of 27 bits for each constraint; factors of 18 bits in two's complement,
-- all of node 0, then node 1 and so on; zero bits to the byte's end. Document 02, request 9: "A wide grid has node count 0, spare bit set, then 16 bits of
-- node count. [..] limits and factors follow as before."
use Rattle.std.specs.Prelude.{◌&&◌, cond, List, [], ◌∷◌, ◌++◌, map, ℕ, ◌+◌, ◌*◌, eqb, ℤ}
use Rattle.bits.specs.Bits.{field, fields}
use Rattle.bits.specs.Signed.{of_int, to_int}
use Rattle.bits.specs.Fields.{Field, bits, file_of}
use Rattle.tariff.specs.Units.{Grid, grid_of}
use Rattle.layouts.specs.declared.forms.Form.{Form}
use Rattle.layouts.specs.declared.forms.Form.TheVariants.{Narrow, Wide}
use Rattle.layouts.specs.Files.{bytes_for, pad_for}
use Rattle.layouts.specs.Forms.{grid_header_bits_of}

abbrev pub limit_width : ℕ
limit_width = 27

abbrev pub factor_width : ℕ
factor_width = 18

-- the bits before the padding, behind a header of h bits
abbrev pub bits_behind : ℕ → ℕ → ℕ → ℕ
bits_behind h n k = h + limit_width * k + factor_width * (n * k)

-- the same by the form, and the bytes of the file
abbrev pub grid_bits : Form → ℕ → ℕ → ℕ
grid_bits f = bits_behind (grid_header_bits_of f)

abbrev pub grid_bytes : Form → ℕ → ℕ → ℕ
grid_bytes f n k = bytes_for (grid_bits f n k)

-- ---- values to bytes

unfoldable pub grid_header : Form → ℕ → ℕ → List Field
grid_header Narrow n k = bits 8 n ∷ bits 7 k ∷ bits 1 0 ∷ []
grid_header Wide n k = bits 8 0 ∷ bits 7 k ∷ bits 1 1 ∷ bits 16 n ∷ []

-- limits and factors, behind whatever header
unfoldable pub grid_body : List ℕ → List ℤ → List Field
grid_body ls fs = map (bits limit_width) ls ++ map (bits factor_width) (map (of_int factor_width) fs)

unfoldable pub grid_fields : Form → ℕ → ℕ → List ℕ → List ℤ → List Field
grid_fields f n k ls fs = grid_header f n k ++ grid_body ls fs ++ bits (pad_for (grid_bits f n k)) 0 ∷ []

unfoldable pub grid_file : Form → Grid → List ℕ
grid_file f g = file_of (grid_fields f g.factors.nodes g.factors.constraints g.limits g.factors.cells)

-- ---- bytes to values

abbrev pub node_field_in : List ℕ → ℕ
node_field_in s = field s 0 8

abbrev pub constraints_in_of : List ℕ → ℕ
constraints_in_of s = field s 8 7

abbrev pub grid_spare_in : List ℕ → ℕ
grid_spare_in s = field s 15 1

-- "node count 0, spare bit set"
unfoldable pub grid_form_in : List ℕ → Form
grid_form_in s = cond (eqb (node_field_in s) 0 && eqb (grid_spare_in s) 1) Wide Narrow

-- the node count of a file in a form
abbrev pub nodes_of : Form → List ℕ → ℕ
nodes_of Narrow s = node_field_in s
nodes_of Wide s = field s 16 16

abbrev pub nodes_in : List ℕ → ℕ
nodes_in s = nodes_of (grid_form_in s) s

-- the limits of k constraints, and the factors of n nodes, from bit o on
unfoldable pub limits_from : List ℕ → ℕ → ℕ → List ℕ
limits_from s o k = fields s o limit_width k

unfoldable pub factors_from : List ℕ → ℕ → ℕ → ℕ → List ℤ
factors_from s o n k = map (to_int factor_width) (fields s (o + limit_width * k) factor_width (n * k))

abbrev pub header_in : List ℕ → ℕ
header_in s = grid_header_bits_of (grid_form_in s)

abbrev pub limits_in : List ℕ → List ℕ
limits_in s = limits_from s (header_in s) (constraints_in_of s)

abbrev pub factors_in : List ℕ → List ℤ
factors_in s = factors_from s (header_in s) (nodes_in s) (constraints_in_of s)

abbrev pub grid_pad_in : List ℕ → ℕ
grid_pad_in s = field s (bits_behind (header_in s) (nodes_in s) (constraints_in_of s)) (pad_for (bits_behind (header_in s) (nodes_in s) (constraints_in_of s)))

abbrev pub grid_in : List ℕ → Grid
grid_in s = grid_of (nodes_in s) (constraints_in_of s) (limits_in s) (factors_in s)
