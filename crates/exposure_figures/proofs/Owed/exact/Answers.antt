-- `Owed::exact`.
use mathlib.Core.Path.{ap, ◌∙◌}
use native.Mathlib.Omega.{arith}
use lib.IntN.{ℤ}
use Rattle.integers.proofs.Machine.{cast_back}
use Rattle.exposure_figures.proofs.Figures.{cents, as_exact}
use Rattle.exposure_figures.proofs.Owed.exact.Goals as goal

pub returns : goal.returns
returns c =
    let a = c.args.self in
    let b = c.requires in
    let same = cast_back a.whole (omega (arith, b.whole-sized)) in
    record {
      is = ap (λ (z : ℤ). cents z a.parts) same ∙ as_exact a.whole a.parts;
      parts-small = b.parts-small;
      whole-sized = rw same (omega (arith, b.whole-sized));
    }
