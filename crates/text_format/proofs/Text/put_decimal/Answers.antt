-- `put_decimal`: the part of the buffer that the digits fill.
use mathlib.Core.Path.{refl}
use native.Mathlib.Omega.{arith}
use Rattle.text_format.specs.Decimal.{decimal}
use Rattle.text_format.proofs.Putting.{copied, puts}
use Rattle.text_format.proofs.Text.put_decimal.Goals as goal

pub returns-clause-put : goal.returns-clause-put
returns-clause-put c =
    let text = c.args.self.now in
    let count = c.count_digits.ensures.0 in
    puts refl (record {
      cells = copied text.buf.now (decimal c.args.n) _ text.at _ c.store_digits.ensures (omega (arith, count)) c.requires;
      place = omega (arith, count);
      room = omega (arith, count, c.requires);
    })
