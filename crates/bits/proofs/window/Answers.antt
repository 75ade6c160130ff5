-- `bits::window`.
use Rattle.bits.proofs.Library.{loaded}
use Rattle.bits.proofs.window.Goals as goal

pub returns : goal.returns
returns c =
    let a = c.args in
    loaded a.count c.from_be_bytes.result a.first a.s.now c.copy_from_slice.new.self (λ i. (c.type_inv.s i).fits) c.requires.count_bound c.requires.count_in_bounds
    c.from_be_bytes.type_inv c.copy_from_slice.ensures.after c.from_be_bytes.ensures
