-- `bits::gather`: four bytes fit.
use native.Mathlib.Omega.{arith}
use Rattle.bits.proofs.Fields.{window_fits}
use Rattle.bits.proofs.gather.Goals as goal

pub overflow_mul-acc : goal.overflow_mul-acc
overflow_mul-acc c =
    let l = c.loop-b in
    omega (arith, window_fits c.args.s.now 0 l.b-index 4 l.acc (λ i. (c.type_inv.s i).fits) (omega arith) l.invariant)

pub overflow_add-acc : goal.overflow_add-acc
overflow_add-acc c =
    let l = c.loop-b in
    omega (arith, window_fits c.args.s.now 0 l.b-index 4 l.acc (λ i. (c.type_inv.s i).fits) (omega arith) l.invariant)
