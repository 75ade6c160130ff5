-- The lines put so far, and how long a line is.
use mathlib.Core.Path.{◌≡◌}
use mathlib.Core.List.{List, flat_map, ◌++◌}
use Prim.Native.Nat.{ℕ, ◌+◌, ◌*◌, ◌/◌, ◌%◌, ◌≤◌}
use native.Mathlib.Omega.{arith}
use lib.ListN.{length}
use Rattle.lists.specs.Lists.{list_to}
use Rattle.lists.proofs.Lists.{flat_map_more}
use Rattle.text_format.specs.Decimal.{decimal}
use Rattle.text_format.proofs.Digits.{decimal-below}
use Rattle.date_rules.specs.Dates.{first_year}
use Rattle.date_rules.specs.OnPeak.{hoursADay, on_peak_hours, table_entry}
use Rattle.date_text.specs.TableText.{count_line}

-- the first k lines
abbrev pub lines_to : ℕ → List ℕ
lines_to k = flat_map count_line (list_to k table_entry)

pub hours_long : (n : ℕ) → n ≤ hoursADay * 31 → length (decimal n) ≤ 3
hours_long n h = decimal-below 3 n (omega arith) (omega arith)

-- a line more, where n is the count
pub lines_more : (k n : ℕ) → n ≡ on_peak_hours (first_year + k / 12) (1 + k % 12) → lines_to (k + 1) ≡ lines_to k ++ count_line n
unfolding table_entry
lines_more k n e = rw e (flat_map_more count_line k table_entry)
