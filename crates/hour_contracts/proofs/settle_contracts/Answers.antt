-- `settle_contracts`: the cells passed hold the cents and the sets of the contracts passed, and the totals are theirs.
-- what contract i adds, its cents, and what priced it
use mathlib.Core.Path.{◌≡◌, refl, sym, ap, ◌∙◌}
use Prim.Native.Nat.{◌≤◌, ◌<◌}
use native.Mathlib.Omega.{arith}
use lib.IntN.{pos}
use Rattle.lists.specs.Lists.{list_to}
use Rattle.lists.proofs.Fill.{fill_turn, rest-turn, fill_front}
use Rattle.lists.proofs.Lists.{length-list_to, get_d_list_to}
use Rattle.integers.proofs.Machine.{back}
use Rattle.tariff.specs.Units.{max_contracts}
use Rattle.tariff.specs.Settlement.{cents as cents_of}
use Rattle.grid_tables.specs.Hours.{factors_by, prices_by}
use Rattle.hour_rules.specs.SettleHour.{priced_of}
use Rattle.hour_rules.specs.Inner.{hour_amount}
use Rattle.hour_rules.proofs.HourSums.{bounded-most, sum-start, sum_more}
use Rattle.hour_contracts.proofs.settle_contracts.Invariants.{set_at, centsAt, amountAt}
use Rattle.hour_contracts.proofs.settle_contracts.Goals as goal

pub loop-i-init : goal.loop-i-init
loop-i-init c =
    let a = c.args in (
      refl,
      refl,
      refl,
      refl,
      sum-start (centsAt a.hour a.contracts),
      sum-start (amountAt a.hour a.contracts),
      record { parts-small = omega arith; sum-sized = omega arith; whole-sized = omega arith },
    )

pub add_settled-totals-requires : goal.add_settled-totals-requires
add_settled-totals-requires c =
    let l = c.loop-i in
    let few : l.i ≤ max_contracts = omega (arith, c.requires.count_in_bounds.0) in
    (c.hour_amount-settled.ensures.amount-is.sized, bounded-most l.i max_contracts l.totals few l.invariant.6)

pub loop-i-preserved : goal.loop-i-preserved
loop-i-preserved c =
    let a = c.args in
    let l = c.loop-i in
    let A = amountAt a.hour a.contracts in
    let F = centsAt a.hour a.contracts in
    let G = set_at a.hour a.contracts in
    let h : l.i < a.contracts.count = omega arith in
    let r = c.hour_amount-settled in
    let o = r.ensures.amount-is in
    let p = c.add_settled-totals.ensures _ o in
    let is = c.at-c.ensures in
    let amount = ap (hour_amount (factors_by a.hour.tables) (prices_by a.hour.tables) a.hour.period) is in
    let set = r.ensures.priced-is ∙ ap (priced_of (factors_by a.hour.tables) (prices_by a.hour.tables) a.hour.period) is
    ∙ sym (get_d_list_to a.contracts.count G l.i 0 h) in
    let v = back r.result.cents (omega (arith, o.sized.cents-sized)) ∙ o.cents-is ∙ ap cents_of amount ∙ sym (get_d_list_to a.contracts.count F l.i (pos 0) h) in (
      fill_turn (list_to a.contracts.count F) l.cents l.i l.invariant.0 _ (pos 0) (omega (arith, l.auto.cents, c.requires.count_in_bounds.1)) (rw (length-list_to a.contracts.count F) h) v,
      rest-turn l.cents a.cents.now l.i _ l.invariant.1,
      fill_turn (list_to a.contracts.count G) l.sets l.i l.invariant.2 _ 0 (omega (arith, l.auto.sets, c.requires.count_in_bounds.2)) (rw (length-list_to a.contracts.count G) h) set,
      rest-turn l.sets a.sets.now l.i _ l.invariant.3,
      sum_more l.i F l.invariant.4 (ap cents_of amount) p.sum,
      sum_more l.i A l.invariant.5 amount p.exact,
      p.bounded l.i l.invariant.6,
    )

pub returns : goal.returns
returns c =
    let a = c.args in
    let l = c.loop-i in
    let F = centsAt a.hour a.contracts in
    let G = set_at a.hour a.contracts in
    let last : l.i ≡ a.contracts.count = omega arith in
    record {
      cells = fill_front (list_to a.contracts.count F) l.cents a.cents.now l.i l.invariant.0 l.invariant.1 (rw (length-list_to a.contracts.count F) last);
      priced = fill_front (list_to a.contracts.count G) l.sets a.sets.now l.i l.invariant.2 l.invariant.3 (rw (length-list_to a.contracts.count G) last);
      sum = rw last at l.invariant.4;
      exact = rw last at l.invariant.5;
      bounded = rw last at l.invariant.6;
    }
