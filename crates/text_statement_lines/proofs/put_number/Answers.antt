-- `put_number`.
use Rattle.text_format.proofs.Putting.{◌and◌}
use Rattle.text_statement_lines.proofs.put_number.Goals as goal

pub returns-clause-put : goal.returns-clause-put
returns-clause-put c = c.put_decimal.ensures.put and c.put_char.ensures
