-- `store_contract`.
use Rattle.book_rules.proofs.Bytes.{contract-number}
use Rattle.book_bits.proofs.store_contract.Goals as goal

pub returns : goal.returns
returns c =
    let n = c in
    let t = n in
    let a = t.args in
    rw (contract-number a.form a.c _ _ n.contract_number-v.result t.terms_number-terms.ensures.0 c.from.ensures n.contract_number-v.ensures)
    c.store_bits.ensures
