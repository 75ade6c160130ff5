-- What inner functions say of a grid's file: its counts where its length is checked, the checks behind that one, and runs of factors.
use Rattle.std.specs.Prelude.{◌≡◌, List, [], ◌∷◌, map, ℕ, ◌*◌, ◌≤◌, length, take, ℤ}
use Rattle.bits.specs.Bits.{fields}
use Rattle.bits.specs.Signed.{of_int, to_int}
use Rattle.tariff.specs.Units.{max_nodes, max_constraints, max_limit}
use Rattle.tariff.specs.Refusals.{Check}
use Rattle.tariff.specs.Checks.{limit_range, factor_range, short_table}
use Rattle.grid_tables.specs.Inner.{GoodCells, GoodFactors}
use Rattle.layouts.specs.declared.forms.Form.{Form}
use Rattle.layouts.specs.Files.{bytes_for, padding}
use Rattle.layouts.specs.Forms.{most_nodes_of}
use Rattle.layouts.specs.GridFile.{factor_width, bits_behind, grid_bytes, header_in, nodes_in, constraints_in_of, limits_in, factors_in, grid_pad_in}

-- the bits of the longest header, and the bits and the bytes of the largest file
abbrev pub most_header : ℕ
most_header = 32

abbrev pub most_bits : ℕ
most_bits = bits_behind most_header max_nodes max_constraints

abbrev pub most_bytes : ℕ
most_bytes = bytes_for most_bits

-- counts that a grid may have
pub record GoodCounts (n k : ℕ) : Type 0 where
  pub nodes-few : n ≤ max_nodes
  pub few : k ≤ max_constraints

-- a file of n nodes and k constraints behind a header of h bits, as long as they say
pub record Counted (s : List ℕ) (h n k : ℕ) : Type 0 where
  pub header : h ≡ header_in s
  pub short : h ≤ most_header
  pub nodes : n ≡ nodes_in s
  pub constraints : k ≡ constraints_in_of s
  pub good : GoodCounts n k
  pub size : length s ≡ bytes_for (bits_behind h n k)

-- a grid in tables, with room for its file
pub record Writable (f : Form) (n k : ℕ) (limits : List ℕ) (factors : List ℤ) (place : List ℕ) : Type 0 where
  pub nodes-fit : n ≤ most_nodes_of f
  pub good-limits : GoodCells max_limit k limits
  pub good-factors : GoodFactors n k factors
  pub room : grid_bytes f n k ≤ length place

-- 6, 7, 8, 9
unfoldable pub figure_checks : List ℕ → List ℕ → List ℤ → List Check
figure_checks s limits factors =
    limit_range (limits_in s)
    ∷ factor_range (factors_in s)
    ∷ padding (grid_pad_in s)
    ∷ short_table (length limits) (constraints_in_of s)
    ∷ short_table (length factors) (nodes_in s * constraints_in_of s)
    ∷ []

-- so many factors of a file, from bit o on
abbrev pub factors_at : List ℕ → ℕ → ℕ → List ℤ
factors_at s o count = map (to_int factor_width) (fields s o factor_width count)

-- the first factors of a table, as bits
abbrev pub coded : ℕ → List ℤ → List ℕ
coded count table = map (of_int factor_width) (take count table)
