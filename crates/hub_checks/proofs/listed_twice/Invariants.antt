-- The invariant of `hub_checks::listed_twice`.
use Rattle.std.specs.Prelude.{◌≡◌, drop}
use Rattle.hub_rules.specs.Hubs.{twice}
use Rattle.hub_checks.proofs.listed_twice.Given as goal

abbrev pub invariant-loop-i : goal.invariant-loop-i
invariant-loop-i l = twice (drop l.i l.nodes) ≡ twice l.nodes
