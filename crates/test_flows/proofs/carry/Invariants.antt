-- The invariant of `test_flows::carry`.
use Rattle.std.specs.Prelude.{min}
use Rattle.lists.specs.Lists.{list_to}
use Rattle.tariff.specs.Units.{factors_of}
use Rattle.tariff.specs.ContractRules.{of_period}
use Rattle.layouts.specs.BookFile.{contract_at}
use Rattle.test_rules.specs.Carried.{Carries}
use Rattle.test_flows.proofs.carry.Given as goal

abbrev pub invariant-loop-from : goal.invariant-loop-from
invariant-loop-from l = Carries (factors_of l.table.nodes l.table.constraints l.table.cells.now) (of_period l.period (list_to (min l.from l.count) (contract_at l.book))) l.flows
