-- `total_of`: the library's sum, of demands in range.
use mathlib.Core.Path.{◌≡◌, ◌∙◌}
use native.Mathlib.Omega.{arith}
use borrow.Author.Rules.{rules}
use Prim.Native.Nat.{◌<◌}
use Rattle.std.specs.List.{sum}
use Rattle.share_rules.proofs.Sharing.{total-small}
use Rattle.share_rules.proofs.Totals.{summed}
use Rattle.share_checks.proofs.total_of.Goals as goal

pub sum-requires-clause-fits : goal.sum-requires-clause-fits
sum-requires-clause-fits c =
    let ds = c.args.demands.now in
    let fits : sum ds < 18446744073709551616 = omega (arith, summed ds, total-small ds c.requires) in
    search rules

pub returns : goal.returns
returns c =
    let ds = c.args.demands.now in
    let e : c.sum.result ≡ sum ds = search rules in
    (e ∙ summed ds, omega (arith, e, summed ds, total-small ds c.requires))
