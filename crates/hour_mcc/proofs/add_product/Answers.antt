-- `add_product`: from the sum of the first k products to that of the first k + 1.
use Rattle.std.proofs.Common.{arith}
use Rattle.hour_mcc.proofs.Products.{sum_fits, sum_more}
use Rattle.hour_mcc.proofs.add_product.Goals as goal

pub add-requires : goal.add-requires
add-requires c =
    let a = c.args in
    let n = c.requires.node_lt_nodes in
    let x = c.times-product in
    omega (arith, sum_fits a.hour a.node n.0 a.row.now c.requires.row_is a.k n.1 a.sum.0 c.requires.sum_value x.result.0 a.k x.ensures n.1)

pub returns : goal.returns
returns c =
    let a = c.args in
    let n = c.requires.node_lt_nodes in
    let x = c.times-product in
    let more = sum_more a.hour a.node n.0 a.row.now c.requires.row_is a.k n.1 a.sum.0 c.requires.sum_value x.result.0 x.ensures c.add.result.0 c.add.ensures in
    record { result_value = more.0; result_bound = more.1 }
