-- Document 02, paper 1: "a program prints the same table from the rule, a count a line". Lines end in one line feed; figures are those of text_format/specs.
use Rattle.std.specs.Prelude.{◌≡◌, ℕ, ◌*◌, length}
use mathlib.Core.List.{List, ◌++◌, flat_map}
use Rattle.lists.specs.Lists.{list_to}
use Rattle.lists.specs.Lent.{overwrite}
use Rattle.text_format.specs.Ascii.{ascii}
use Rattle.text_format.specs.Decimal.{decimal}
use Rattle.date_rules.specs.OnPeak.{table_entries, table_entry}

unfoldable pub count_line : ℕ → List ℕ
count_line hours = decimal hours ++ ascii "\n"

-- from January 2010 on
abbrev pub table_text : List ℕ
table_text = flat_map count_line (list_to table_entries table_entry)

-- a count has three digits
abbrev pub table_bytes : ℕ
table_bytes = 4 * table_entries

-- the promise: the text from the buffer's front, and its bytes
pub record PutsTable (entry : List ℕ) (bytes : ℕ) (exit : List ℕ) : Type 0 where
  pub text_put : exit ≡ overwrite table_text entry
  pub bytes-given : bytes ≡ length table_text
