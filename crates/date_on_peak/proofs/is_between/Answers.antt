-- `is_between`: the day, then the weekday.
use mathlib.Core.Path.{◌≡◌, sym, ◌∙◌}
use mathlib.Core.Bool.{true, false, ◌&&◌}
use lib.Dec.{leb}
use Rattle.date_rules.specs.Inner.{between}
use Rattle.dates.proofs.Ranges.{range-test}
use Rattle.date_on_peak.proofs.is_between.Goals as goal

pub returns-then-contains : goal.returns-then-contains
unfolding between
returns-then-contains c =
    let a = c.args in
    let s = c.new.ensures in
    let days : (leb a.from a.day && leb a.day a.to) ≡ true =
    sym ((rw (s.start, s.end, s.exhausted) at c.contains.ensures.value) ∙ range-test a.from a.to a.day) ∙ c.if-contains.true in
    rw (days, c.weekday.ensures)

pub returns-else-contains : goal.returns-else-contains
unfolding between
returns-else-contains c =
    let a = c.args in
    let s = c.new.ensures in
    let days : (leb a.from a.day && leb a.day a.to) ≡ false =
    sym ((rw (s.start, s.end, s.exhausted) at c.contains.ensures.value) ∙ range-test a.from a.to a.day) ∙ c.if-contains.false in
    rw (days, c.if-contains.false)
