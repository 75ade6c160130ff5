-- `number_of`: the parts of the bits make the number.
use native.Mathlib.Omega.{arith}
use Rattle.layouts.specs.Inner.{contract_for}
use Rattle.canonical_numbers.proofs.Packing.{number_is, end-small}
use Rattle.canonical_numbers.proofs.number_of.Goals as goal

pub contract_number-requires : goal.contract_number-requires
contract_number-requires c =
    let s = c in
    let source = end-small _ _ s.requires c.source_in-source.ensures.1 in
    let sink = end-small _ _ s.requires c.sink_in-sink.ensures.1 in
    (c.terms_in-terms.ensures.1, omega arith, omega arith, c.quantity_in-quantity.ensures.1)

pub returns : goal.returns
returns c =
    let p = c in
    let a = p.args in
    number_is (contract_for a.width a.v) _ _ _ _ _ p.terms_in-terms.ensures.0 p.source_in-source.ensures.0 p.sink_in-sink.ensures.0
    p.quantity_in-quantity.ensures.0 c.contract_number.ensures
