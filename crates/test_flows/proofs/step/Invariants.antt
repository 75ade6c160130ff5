-- The invariant of `test_flows::step`.
use mathlib.Core.Path.{◌≡◌}
use lib.ListN.{length}
use Rattle.lists.specs.Lists.{list_to}
use Rattle.tariff.specs.Units.{factors_of, max_constraints}
use Rattle.tariff.specs.ContractRules.{of_period}
use Rattle.layouts.specs.BookFile.{contract_at}
use Rattle.test_rules.specs.Carried.{Carries}
use Rattle.test_flows.proofs.step.Given as goal

abbrev pub invariant-loop-i : goal.invariant-loop-i
invariant-loop-i l = (length l.carried.flows ≡ max_constraints)
    × Carries (factors_of l.table.nodes l.table.constraints l.table.cells.now) (of_period l.period (list_to l.i (contract_at l.contracts.file.now))) l.carried
