-- Document 02, request 9, "Node numbers past one byte": the two forms of a grid's and a book's file. The narrow one is document 01's.
use Rattle.std.specs.Prelude.{ℕ, zero, suc, min}
use Rattle.tariff.specs.Units.{max_nodes, max_narrow_nodes}
use Rattle.layouts.specs.declared.forms.Form.{Form}
use Rattle.layouts.specs.declared.forms.Form.TheVariants.{Narrow, Wide}

-- a form by its number; any number but 0 is the wide one's
abbrev pub form_number : Form → ℕ
form_number Narrow = 0
form_number Wide = 1

abbrev pub form_of : ℕ → Form
form_of zero = Narrow
form_of (suc n) = Wide

-- ---- of a book: "A wide book has all six spare bits set and 12-bit ends, 56 bits for a contract."

abbrev pub end_width : Form → ℕ
end_width Narrow = 8
end_width Wide = 12

-- the bytes of a contract
abbrev pub record_bytes : Form → ℕ
record_bytes Narrow = 6
record_bytes Wide = 7

abbrev pub spare_pattern_of : Form → ℕ
spare_pattern_of Narrow = 0
spare_pattern_of Wide = 63

-- "a narrow book's writer refuses an end above 255": what the ends of n nodes are below
abbrev pub ends_below_of : Form → ℕ → ℕ
ends_below_of Narrow n = min n 256
ends_below_of Wide n = n

-- ---- of a grid: "A wide grid has node count 0, spare bit set, then 16 bits of node count. 1 to 4,000 nodes are allowed"

abbrev pub grid_header_bits_of : Form → ℕ
grid_header_bits_of Narrow = 16
grid_header_bits_of Wide = 32

abbrev pub grid_header_bytes_of : Form → ℕ
grid_header_bytes_of Narrow = 2
grid_header_bytes_of Wide = 4

abbrev pub grid_spare_of : Form → ℕ
grid_spare_of Narrow = 0
grid_spare_of Wide = 1

-- the most nodes of a grid's file
abbrev pub most_nodes_of : Form → ℕ
most_nodes_of Narrow = max_narrow_nodes
most_nodes_of Wide = max_nodes
