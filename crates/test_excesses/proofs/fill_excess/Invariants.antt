-- The invariant of `test_excesses::fill_excess`.
use mathlib.Core.Path.{◌≡◌}
use lib.ListN.{length, take, drop}
use Rattle.lists.specs.Lists.{list_to}
use Rattle.test_excesses.specs.Inner.{excess_in}
use Rattle.test_excesses.proofs.fill_excess.Given as goal

abbrev pub invariant-loop-k : goal.invariant-loop-k
invariant-loop-k l = (length l.out ≡ length l.initial.out) × (take l.k l.out ≡ take l.k (list_to l.loading.constraints (excess_in l.loading.limits.now l.process l.loading.flows.now.flows))) × (drop l.k l.out ≡ drop l.k l.initial.out)
