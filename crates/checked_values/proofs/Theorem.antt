-- THE THEOREM over all rows: what the definitions give is what document 01 says. antt computes both sides.
use mathlib.Core.Path.{◌≡◌, refl}
use mathlib.Core.List.{map, flat_map}
use Rattle.integers.specs.Sums.{sum_to, sum_over_of}
use Rattle.bits.specs.Fields.{file_of}
use Rattle.tariff.specs.ContractRules.{of_period}
use Rattle.tariff.specs.Settlement.{congestion, mcc, amount}
use Rattle.lists.specs.Sets.{set_of, count_of, lowest_of}
use Rattle.tariff.specs.Feasibility.{flow, total_flow, released, excess, overloaded, overload_set, overload_count, lowest_overload}
use Rattle.layouts.specs.BookFile.{contract_fields, packed_book, book_file}
use Rattle.layouts.specs.PriceFile.{price_fields, price_file}
use Rattle.checked_values.specs.Table.{CheckedRow, table}

pub checked_values_lem : map (λ (r : CheckedRow). r.given) table ≡ map (λ (r : CheckedRow). r.expected) table
unfolding table sum_to sum_over_of flat_map file_of of_period congestion mcc amount set_of count_of lowest_of
    flow total_flow released excess overloaded overload_set overload_count lowest_overload
    contract_fields packed_book book_file price_fields price_file
checked_values_lem = refl
