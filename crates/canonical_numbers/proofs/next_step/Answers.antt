-- `next_step`: of two fives, of one and too many, of one and few enough.
use mathlib.Core.Path.{◌≡◌}
use Prim.Native.Nat.{◌+◌, ◌-◌, ◌/◌, ◌%◌, ◌≤◌, ◌<◌}
use native.Mathlib.Omega.{arith}
use borrow.Author.Tests.{eq-eqb, ne_eqb, le-leb, lt-leb}
use Rattle.canonical_numbers.proofs.next_step.Goals as goal

pub returns-then-row-next : goal.returns-then-row-next
returns-then-row-next c =
    let a = c.args in
    let other = ne_eqb (a.row / 1048576) (a.next / 1048576) c.if-row-next.true in
    record { out-is = rw other; pending-is = rw other; sized = c.requires.1 }

pub returns-then-lt : goal.returns-then-lt
returns-then-lt c =
    let both_is : c.add-both.result.0 ≡ c.args.row % 1048576 + c.args.next % 1048576 = omega (arith, c.add-both.ensures, c.row_quantity-2.ensures, c.row_quantity.ensures) in
    let too_many : 1000000 < c.add-both.result.0 = grind arith in
    let x = c.args.row % 1048576 in
    let y = c.args.next % 1048576 in
    let one = eq-eqb (c.args.row / 1048576) (c.args.next / 1048576) c.if-row-next.false in
    let both = both_is in
    let many = lt-leb (x + y) 1000000 (omega (arith, both, too_many)) in
    let rest : c.sub.result.0 ≡ x + y - 1000000 = omega (arith, both, c.sub.ensures) in
    let is = rw rest at c.row_with-then-lt.ensures in
    record {
      out-is = rw (one, many, c.row_with.ensures);
      pending-is = rw (one, many) is;
      sized = rw is (omega (arith, c.requires.0, c.requires.1));
    }

pub returns : goal.returns
returns c =
    let both_is : c.add-both.result.0 ≡ c.args.row % 1048576 + c.args.next % 1048576 = omega (arith, c.add-both.ensures, c.row_quantity-2.ensures, c.row_quantity.ensures) in
    let few-enough : c.add-both.result.0 ≤ 1000000 = grind arith in
    let x = c.args.row % 1048576 in
    let y = c.args.next % 1048576 in
    let one = eq-eqb (c.args.row / 1048576) (c.args.next / 1048576) c.if-row-next.false in
    let both = both_is in
    let low : x + y ≤ 1000000 = omega (arith, both, few-enough) in
    let few = le-leb (x + y) 1000000 low in
    let is = rw both at c.row_with-2.ensures in
    record { out-is = rw (one, few); pending-is = rw (one, few) is; sized = rw is (omega arith) }
