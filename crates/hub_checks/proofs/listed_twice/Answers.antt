-- `listed_twice`: no node passed stands again.
use mathlib.Core.Path.{sym, ◌∙◌}
use native.Mathlib.Omega.{arith}
use Rattle.hub_checks.proofs.Rest.{told-behind, twice-here, twice-later, twice-over}
use Rattle.hub_checks.proofs.listed_twice.Goals as goal

pub returns-then-contains : goal.returns-then-contains
returns-then-contains c =
    let ns = c.args.nodes.now in
    let i = c.loop-i.i in
    twice-here ns i c.loop-i-test.true (told-behind ns i _ _ c.contains.ensures.value ∙ c.if-contains.true) ∙ c.loop-i.invariant

pub loop-i-preserved : goal.loop-i-preserved
loop-i-preserved c =
    let ns = c.args.nodes.now in
    let i = c.loop-i.i in
    sym (twice-later ns i c.loop-i-test.true (told-behind ns i _ _ c.contains.ensures.value ∙ c.if-contains.false)) ∙ c.loop-i.invariant

pub returns : goal.returns
returns c = let l = c.loop-i in twice-over c.args.nodes.now l.i (omega arith) ∙ l.invariant
