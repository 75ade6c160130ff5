-- `put_lines`: the heading and the periods' lines.
use Rattle.text_format.proofs.Putting.{◌and◌}
use Rattle.text_report_rules.specs.Report.{report_lines}
use Rattle.text_report_lines.proofs.put_lines.Goals as goal

pub returns : goal.returns
unfolding report_lines
returns c = c.put.ensures and c.put_period_lines.ensures.put and c.put_period_lines-2.ensures.put
