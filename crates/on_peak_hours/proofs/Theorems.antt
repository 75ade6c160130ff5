-- THE PROGRAM'S TEXT is the array's: the lines of the rule's counts are those of the figures that `month_hours` answers from.
use mathlib.Core.Path.{◌≡◌, refl, sym, ap, ◌∙◌}
use mathlib.Core.List.{flat_map}
use lib.ListN.{length}
use Rattle.text_format.specs.Decimal.{digits_in, decimal}
use Rattle.date_table.specs.Table.{cells}
use Rattle.date_table.proofs.Theorems.{table-right}
use Rattle.date_text.specs.TableText.{count_line, table_text, table_bytes}

pub text_is_the_array : table_text ≡ flat_map count_line cells
text_is_the_array = ap (flat_map count_line) (sym table-right)

array_bytes : length (flat_map count_line cells) ≡ table_bytes
unfolding flat_map count_line decimal digits_in
array_bytes = refl

-- three digits and a line feed for each count
pub text_has_1344_bytes : length table_text ≡ table_bytes
text_has_1344_bytes = ap length text_is_the_array ∙ array_bytes
