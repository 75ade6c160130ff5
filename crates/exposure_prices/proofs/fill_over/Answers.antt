-- `fill_over`: the overloaded constraints passed are listed.
use Rattle.std.proofs.Common.{refl, sym, ap, ◌∙◌, arith, length, pos}
use Rattle.std.specs.Int.Signed.{lt_z}
use Rattle.lists.specs.Sets.{count_of}
use Rattle.exposure_prices.specs.Inner.{above_in, Noted}
use Rattle.exposure_prices.proofs.Cells.{read_excess}
use Rattle.exposure_prices.proofs.Counting.{count_next, noted_on, noted_off, counted-most, list_start, list_next}
use Rattle.exposure_prices.proofs.fill_over.Goals.{then-excess-gt0, else-excess-gt0}
use Rattle.exposure_prices.proofs.fill_over.Goals as goal

pub loop-k-init : goal.loop-k-init
unfolding count_of
loop-k-init c = (omega arith, refl, c.requires, list_start _ _)

pub loop-k-preserved : goal.loop-k-preserved
loop-k-preserved c =
    let a = c.args in
    let l = c.loop-k in
    let s = c.if-excess-gt0 in
    let b = above_in a.excesses.cells.now in
    let read = read_excess (length a.excesses.cells.now) a.excesses.cells.now a.excesses.sized l.k (omega arith) in
    let noted : Noted (b l.k) l.k l.count l.over s.over s.count = elim s.branch [
      | then-excess-gt0 w ↦ noted_on (b l.k) l.k l.count s.count l.over s.over (ap (lt_z (pos 0)) (sym read.0) ∙ w.if-excess-gt0.true) (omega (arith, l.invariant.0, l.invariant.2)) w.over-is w.count-is
      | else-excess-gt0 w ↦ noted_off (b l.k) l.k l.count s.count l.over s.over (ap (lt_z (pos 0)) (sym read.0) ∙ w.if-excess-gt0.false) w.over-is w.count-is
    ] in (
      counted-most (b l.k) l.count l.k s.count l.invariant.0 noted.counts,
      count_next l.k b l.count s.count l.invariant.1 noted.counts,
      noted.length-kept ∙ l.invariant.2,
      list_next b l.k l.count s.count l.over _ l.invariant.1 noted l.invariant.3,
    )
