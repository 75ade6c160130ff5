-- antt computes both sides.
use mathlib.Core.Path.{refl}
use Rattle.integers.specs.Sums.{sum_over_of}
use Rattle.lists.specs.Sets.{set_of}
use Rattle.tariff.specs.ContractRules.{of_period}
use Rattle.tariff.specs.Refusals.{first}
use Rattle.tariff.specs.Feasibility.{flow, total_flow, released, overloaded, overload_set}
use Rattle.layouts.specs.BookTable.{row_from}
use Rattle.book_rules.specs.BookChecks.{contract_checks}
use Rattle.book_rules.specs.WriteBook.{row_checks}
use Rattle.tier_rules.specs.Checks.{award_checks}
use Rattle.tier_rules.specs.Runs.{step}
use Rattle.tier_reordering.specs.OnTheWay.{OnTheWay}

pub on_the_way : OnTheWay
unfolding row_from sum_over_of set_of of_period first flow total_flow released overloaded overload_set contract_checks row_checks award_checks step
on_the_way = record { both-held = refl; both-flows = refl; first-draws_21 = refl; one_held = refl; one_flows = refl }
