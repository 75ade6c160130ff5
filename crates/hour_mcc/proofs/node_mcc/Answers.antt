-- `node_mcc`: the sum so far is that of the products so far, not yet negated.
use Rattle.std.proofs.Common.{sym, arith}
use Rattle.tariff.proofs.Theorems.{sum-starts_at_zero}
use Rattle.grid_tables.specs.Hours.{factors_by, prices_by}
use Rattle.hour_mcc.proofs.Products.{mcc-end}
use Rattle.hour_mcc.proofs.node_mcc.Goals as goal

pub loop-k-init : goal.loop-k-init
loop-k-init c = let a = c.args in (sym (sum-starts_at_zero (factors_by a.hour) (prices_by a.hour) a.node), omega arith)

pub returns : goal.returns
returns c =
    let a = c.args in
    let l = c.loop-k in
    mcc-end a.hour a.node c.requires.node_lt_nodes l.sum.0 c.neg.result.0 l.k (omega arith) l.invariant.0 c.neg.ensures
