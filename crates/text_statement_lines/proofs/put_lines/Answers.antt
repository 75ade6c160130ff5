-- `put_lines`: the totals are within their bounds.
use Prim.Native.Nat.{◌≤◌, ℕ}
use native.Mathlib.Omega.{arith}
use lib.IntN.{nat_abs}
use Rattle.tariff.specs.Units.{max_contracts}
use Rattle.hour_rules.specs.declared.Totals.{Totals}
use Rattle.hour_rules.specs.Inner.{Bounded}
use Rattle.text_format.proofs.Putting.{◌and◌}
use Rattle.text_statement_lines.specs.Inner.{max_line_total, settled_lines_of}
use Rattle.text_statement_lines.proofs.Figures.{kept}
use Rattle.text_statement_lines.proofs.put_lines.Goals as goal

most : (count : ℕ) (totals : Totals) → count ≤ max_contracts → Bounded count totals → (nat_abs totals.sum ≤ max_line_total) × (nat_abs totals.whole ≤ max_line_total)
most count totals few bounded = (omega (arith, few, bounded.sum-sized), omega (arith, few, bounded.whole-sized))

pub returns : goal.returns
unfolding settled_lines_of
returns c =
    let b = c.args.book in
    let r = c.args.totals in
    let sized = most b.contracts.count r b.sized.few c.requires.bounded in
    c.put.ensures and c.put_contracts.ensures.put and rw (kept r.sum sized.0) at c.put_sum.ensures.put and rw (kept r.whole sized.1) at c.put_exact.ensures.put
