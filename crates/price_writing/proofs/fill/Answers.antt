-- `price_writing::fill`: the period, the count, the prices and the padding, one after the other.
use mathlib.Core.Path.{refl, sym, ◌∙◌}
use native.Mathlib.Omega.{arith}
use lib.ListN.{take}
use lib.Seq.{length-take-le}
use Rattle.runs.proofs.Written.{written_start, written-put, written_last, written-run}
use Rattle.layouts.specs.PriceFile.{price_width}
use Rattle.price_rules.proofs.PriceLaws.{file-length, prices-filled}
use Rattle.price_writing.proofs.fill.Goals as goal

pub returns-clause-value : goal.returns-clause-value
returns-clause-value c =
    let a = c.args in
    c.file_bytes-size.ensures
    ∙ sym (file-length a.period a.constraints (take a.constraints a.prices.now) (length-take-le a.constraints a.prices.now c.requires.2.long))

pub returns-clause-file_value : goal.returns-clause-file_value
returns-clause-file_value c =
    let a = c.args in
    let e = c.put-past_period in
    let g = c.put-past_count in
    let w = c.write_run-past_prices in
    let z = c.put_last in
    let ps = take a.constraints a.prices.now in
    let one = written-put (written_start a.file.now _ c.new-start.ensures) 1 _ _ a.period
    (e.ensures.result_value, (e.ensures.result_value_2, e.ensures.writes_on)) in
    let two = written-put one 7 _ _ a.constraints (g.ensures.result_value, (g.ensures.result_value_2, g.ensures.writes_on)) in
    let three = written-run two price_width _ _ ps _ refl (w.ensures.result_value, (w.ensures.result_value_2, w.ensures.writes_on)) in
    let four = written_last three _ _ _ 0 (z.ensures.result_value, (z.ensures.result_value_2, z.ensures.writes_on)) in
    prices-filled a.period a.constraints ps a.file.now _ _ (length-take-le a.constraints a.prices.now c.requires.2.long)
    (rw c.file_bytes-size.ensures at four) z.ensures.result_value_2.1
    (λ i. (c.type_inv.file i).fits) (omega (arith, c.requires.3, e.auto.buf, g.auto.buf, w.auto.buf, z.auto.buf))
