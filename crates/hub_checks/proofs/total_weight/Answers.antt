-- `total_weight`: the library's sum, of weights in range.
use mathlib.Core.Path.{◌≡◌, ◌∙◌}
use native.Mathlib.Omega.{arith}
use borrow.Author.Rules.{rules}
use Prim.Native.Nat.{◌<◌}
use Rattle.std.specs.List.{sum}
use Rattle.hub_checks.proofs.Rest.{summed, weights_small}
use Rattle.hub_checks.proofs.total_weight.Goals as goal

pub sum-requires-clause-fits : goal.sum-requires-clause-fits
sum-requires-clause-fits c =
    let ws = c.args.weights.now in
    let fits : sum ws < 18446744073709551616 = omega (arith, summed ws, weights_small ws c.requires.1, c.requires.0) in
    search rules

pub returns : goal.returns
returns c =
    let e : c.sum.result ≡ sum c.args.weights.now = search rules in
    e ∙ summed _
