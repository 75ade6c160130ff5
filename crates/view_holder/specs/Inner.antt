-- A holder's rows as they are stored, one contract after the other.
use mathlib.Core.List.{List, ◌++◌, flat_map}
use Rattle.std.specs.Prelude.{ℕ}
use Rattle.bits.specs.Bits.{digits}
use Rattle.layouts.specs.declared.forms.Form.{Form}
use Rattle.layouts.specs.BookFile.{contract_in}
use Rattle.book_rules.specs.Inner.{bits_bytes}
use Rattle.view_rules.specs.Views.{held_at, held_to, view_row}

-- the row of contract i whose bits are v
abbrev pub stored_row : Form → ℕ → ℕ → List ℕ
stored_row f i v = digits 8 2 i ++ bits_bytes f v

-- the bytes of contract i of a book's bytes where h holds it, and those of the first m
unfoldable pub rows_at : Form → ℕ → List ℕ → ℕ → List ℕ
rows_at f h s i = flat_map (view_row f) (held_at h i (contract_in f s i))

unfoldable pub rows_to : Form → ℕ → List ℕ → ℕ → List ℕ
rows_to f h s m = flat_map (view_row f) (held_to h (contract_in f s) m)
