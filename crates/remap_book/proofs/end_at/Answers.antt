-- `end_at`: a cell of two bytes fits.
use native.Mathlib.Omega.{arith}
use Rattle.remap_book.proofs.end_at.Goals as goal

pub overflow_cast-result : goal.overflow_cast-result
overflow_cast-result c = record { fits = omega (arith, (c.type_inv.ends c.args.node).fits) }
