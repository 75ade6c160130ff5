-- `priced_set`: where the factors differ and the price is not 0.
use Rattle.std.proofs.Common.{refl}
use Rattle.hour_priced.proofs.Rows.{priced-is}
use Rattle.hour_priced.proofs.priced_set.Goals as goal

pub returns : goal.returns
returns c =
    let a = c.args in
    let t = a.hour in
    priced-is t.factors.nodes t.factors.constraints t.factors.cells.now t.prices.now t.good a.c c.requires.0 c.differ_set.result a.posted _ c.differ_set.ensures c.requires.1 refl
