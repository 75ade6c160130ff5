-- `carry`: the contracts below i are carried.
use native.Mathlib.Numerals.{unary_clauses}
use native.Mathlib.Omega.{arith}
use Rattle.lists.specs.Lists.{list_to}
use Rattle.tariff.specs.Units.{factors_of}
use Rattle.tariff.specs.ContractRules.{of_period}
use Rattle.book_rules.proofs.Accepted.{book-accepted}
use Rattle.test_flows.proofs.carry.Goals as goal

pub of-contracts-requires : goal.of-contracts-requires
of-contracts-requires c =
    let own = book-accepted c.args.table.nodes c.args.book.now c.requires in
    (omega (arith, own.size), omega (arith, own.size))

pub loop-from-init : goal.loop-from-init
unfolding list_to of_period
loop-from-init c = simp unary_clauses (c.no_flows-flows.ensures (factors_of c.args.table.nodes c.args.table.constraints c.args.table.cells.now) c.args.table.good.few)
