-- `count_digits`: those counted, and those of the rest.
use Prim.Native.Nat.{◌/◌}
use native.Mathlib.Omega.{arith}
use Rattle.text_format.proofs.Digits.{length-decimal, some_decimal, length-one, length-past}
use Rattle.text_format.proofs.figures.count_digits.Goals as goal

pub loop-rest-init : goal.loop-rest-init
loop-rest-init c = let n = c.args.n in omega (arith, some_decimal n, length-decimal n)

pub loop-rest-preserved : goal.loop-rest-preserved
loop-rest-preserved c =
    let l = c.loop-rest in
    let m = length-past 4 l.rest (omega (arith, l.invariant.0, c.ranges.n.fits)) (omega arith) in
    omega (arith, m, some_decimal (l.rest / 10000))

pub returns-then-rest-lt10 : goal.returns-then-rest-lt10
returns-then-rest-lt10 c = let l = c.loop-rest in omega (arith, length-one l.rest (omega arith))

pub returns-then-rest-lt100 : goal.returns-then-rest-lt100
returns-then-rest-lt100 c = let l = c.loop-rest in omega (arith, length-past 1 l.rest (omega arith) (omega arith), length-one (l.rest / 10) (omega arith))

pub returns-then-rest-lt1000 : goal.returns-then-rest-lt1000
returns-then-rest-lt1000 c = let l = c.loop-rest in omega (arith, length-past 2 l.rest (omega arith) (omega arith), length-one (l.rest / 100) (omega arith))

pub returns-else-rest-lt1000 : goal.returns-else-rest-lt1000
returns-else-rest-lt1000 c = let l = c.loop-rest in omega (arith, length-past 3 l.rest (omega arith) (omega arith), length-one (l.rest / 1000) (omega arith))
