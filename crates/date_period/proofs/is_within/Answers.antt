-- `is_within`.
use mathlib.Core.Path.{◌∙◌}
use Rattle.dates.proofs.Ranges.{range-test}
use Rattle.date_period.specs.HourPeriod.{within}
use Rattle.date_period.proofs.is_within.Goals as goal

pub returns : goal.returns
unfolding within
returns c =
    let a = c.args in
    let s = c.new.ensures in
    (rw (s.start, s.end, s.exhausted) at c.contains.ensures.value) ∙ range-test a.first a.last a.hour
