-- THE TABLE: every entry is right by the rule. antt computes both sides.
use mathlib.Core.Path.{◌≡◌, refl, ap, ap₂, ◌∙◌}
use mathlib.Core.Bool.{true}
use mathlib.Core.List.{List}
use Prim.Native.Nat.{ℕ}
use native.Mathlib.Omega.{arith}
use lib.ListN.{get_or}
use Rattle.lists.specs.Lists.{list_to}
use Rattle.lists.specs.Sets.{count_of}
use Rattle.lists.proofs.Lists.{get_d_list_to}
use Rattle.date_rules.specs.Dates.{leap, month_length_of, length_before_of, day_number_of, weekday_of, month_exists_of}
use Rattle.date_rules.specs.OnPeak.{weekdays_to, nth, last, holiday, observed, on_peak_day, on_peak_hours, table_entries, table_entry}
use Rattle.date_rules.proofs.Months.{MonthIn, month_in}
use Rattle.date_table.specs.Table.{cells, month_cell}

-- the array as a list is the list of the rule's counts
pub table-right : cells ≡ list_to table_entries table_entry
unfolding list_to count_of leap month_length_of length_before_of day_number_of weekday_of weekdays_to nth last holiday observed on_peak_day on_peak_hours table_entry
table-right = refl

entry_at : (y m : ℕ) → MonthIn y m → table_entry (month_cell y m) ≡ on_peak_hours y m
unfolding table_entry
entry_at y m i = ap₂ on_peak_hours (omega (arith, i)) (omega (arith, i))

pub every_entry_right : (y m : ℕ) → month_exists_of y m ≡ true → get_or cells (month_cell y m) 0 ≡ on_peak_hours y m
every_entry_right y m e =
    let i = month_in y m e in
    ap (λ (xs : List ℕ). get_or xs (month_cell y m) 0) table-right ∙ get_d_list_to table_entries table_entry (month_cell y m) 0 (omega (arith, i)) ∙ entry_at y m i
