-- `row_number`.
use native.Mathlib.Omega.{arith}
use Rattle.book_rules.proofs.Rows.{holder-small, source-small, sink-small, quantity-small, row-bytes}
use Rattle.book_rows.proofs.row_number.Goals as goal

pub overflow_add-terms-4 : goal.overflow_add-terms-4
overflow_add-terms-4 c =
    let s = c in
    let row = s.requires.row_fits in
    omega (arith, row.kind-is_bit, row.period-is_bit, holder-small s.args.form s.args.cells.now s.args.at row)

pub contract_number-requires : goal.contract_number-requires
contract_number-requires c =
    let s = c in
    let a = s.args in
    let row = s.requires.row_fits in (
      omega (arith, row.kind-is_bit, row.period-is_bit, holder-small a.form a.cells.now a.at row),
      source-small a.form a.cells.now a.at row,
      sink-small a.form a.cells.now a.at row,
      quantity-small a.form a.cells.now a.at row,
    )

pub returns : goal.returns
returns c =
    let s = c in
    row-bytes s.args.form s.args.cells.now s.args.at s.requires.row_fits c.contract_number.result c.contract_number.ensures
