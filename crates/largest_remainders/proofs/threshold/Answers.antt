-- `threshold`: enough keys are from `low` on, too few from `high` on.
use Rattle.std.proofs.Common.{◌<◌, length, sym, ◌∙◌, arith}
use native.Mathlib.Nat.{pos_of_ne-zero}
use Rattle.largest_remainders.specs.Inner.{key_at}
use Rattle.largest_remainders.proofs.Halving.{from_zero, from_top, met}
use Rattle.largest_remainders.proofs.threshold.Goals as goal

pub returns-then-wanted-eq0 : goal.returns-then-wanted-eq0
returns-then-wanted-eq0 c =
    let a = c.args in
    from_top (length a.keys.now) (key_at a.keys.now) a.top c.requires.small ∙ sym c.if-wanted-eq0.true

pub loop-high-init : goal.loop-high-init
loop-high-init c =
    let a = c.args in
    let n = length a.keys.now in
    let some : 0 < a.wanted = pos_of_ne-zero c.if-wanted-eq0.false in
    record {
      apart = omega (arith, c.requires.small 0 (omega (arith, c.requires.enough)));
      within = omega arith;
      few_turns = omega arith;
      between = record {
        enough-is = sym (from_zero n (key_at a.keys.now));
        fewer_is = sym (from_top n (key_at a.keys.now) a.top c.requires.small);
        is-enough = c.requires.enough;
        is-fewer = some;
      };
    }

pub returns : goal.returns
returns c =
    let a = c.args in
    let l = c.loop-high in
    let v = l.invariant in
    met (length a.keys.now) (key_at a.keys.now) c.requires.apart a.wanted l.low.at l.low.keys l.high.at l.high.keys v.between v.apart (omega arith)
