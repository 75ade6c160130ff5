-- `price_writing::write_prices`: where no check refuses, the prices fit their fields and the bytes the file.
use mathlib.Core.Path.{sym, ◌∙◌}
use Rattle.price_rules.proofs.PriceLaws.{writable}
use Rattle.price_writing.proofs.write_prices.Goals as goal

pub fill-requires : goal.fill-requires
fill-requires c =
    let ok = writable _ _ _ _ (sym c.check_write.ensures ∙ c.in_ok-check_write.was) in
    (ok.period, ok.few, ok.good, ok.room)
