-- `differ`: the bits differ where the factors do.
use native.Mathlib.Omega.{arith}
use Rattle.lists.proofs.Sets.{set-lt}
use Rattle.hour_priced.specs.Inner.{differ_at}
use Rattle.hour_priced.proofs.Rows.{one_differs}
use Rattle.hour_priced.proofs.differ.Goals as goal

pub returns : goal.returns
returns c =
    let s = c in
    let is = one_differs s.args.factors.now s.args.a s.args.b s.requires.0 s.requires.1 in
    (is, omega (arith, is, set-lt 1 (differ_at s.args.factors.now s.args.a s.args.b)))
