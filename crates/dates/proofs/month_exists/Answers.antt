-- `month_exists`: the four tests.
use mathlib.Core.Path.{◌≡◌, sym, ◌∙◌}
use mathlib.Core.Bool.{true, false, ◌&&◌}
use lib.Dec.{leb}
use Rattle.date_rules.specs.Dates.{month_exists_of}
use Rattle.dates.proofs.Ranges.{range-test}
use Rattle.dates.proofs.month_exists.Goals as goal

pub returns-then-contains : goal.returns-then-contains
unfolding month_exists_of
returns-then-contains c =
    let a = c.args in
    let s = c.new.ensures in
    let t = c.new-then-contains.ensures in
    let years : (leb 2010 a.year && leb a.year 2037) ≡ true = sym ((rw (s.start, s.end, s.exhausted) at c.contains.ensures.value) ∙ range-test 2010 2037 a.year) ∙ c.if-contains.true in
    let months : c.contains-then-contains.result ≡ (leb 1 a.month && leb a.month 12) = (rw (t.start, t.end, t.exhausted) at c.contains-then-contains.ensures.value) ∙ range-test 1 12 a.month in
    rw (years, months)

pub returns-else-contains : goal.returns-else-contains
unfolding month_exists_of
returns-else-contains c =
    let a = c.args in
    let s = c.new.ensures in
    let years : (leb 2010 a.year && leb a.year 2037) ≡ false = sym ((rw (s.start, s.end, s.exhausted) at c.contains.ensures.value) ∙ range-test 2010 2037 a.year) ∙ c.if-contains.false in
    rw (years, c.if-contains.false)
