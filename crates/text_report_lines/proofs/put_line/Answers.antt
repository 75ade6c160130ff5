-- `put_line`: its four parts, one behind the other.
use Rattle.text_format.proofs.Putting.{◌and◌}
use Rattle.text_report_lines.proofs.put_line.Goals as goal

pub returns-clause-put : goal.returns-clause-put
returns-clause-put c = c.put_period.ensures.put and c.put_process.ensures.put and c.put_figures.ensures.put and c.put_char.ensures
