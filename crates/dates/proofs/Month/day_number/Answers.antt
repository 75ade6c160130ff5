-- `Month::day_number`: the sum of the definition, with the months before from their table.
use native.Mathlib.Omega.{arith}
use mathlib.Core.Path.{◌∙◌, ap}
use mathlib.Core.Bool.{Bool}
use Rattle.date_rules.specs.Dates.{day_number_of, length_before_of}
use Rattle.dates.proofs.Month.day_number.Goals as goal

pub returns : goal.returns
unfolding day_number_of
returns c =
    let a = c.args in
    let e = c.length_before-before.ensures.0 ∙ ap (λ (b : Bool). length_before_of b a.self.month) c.leap_year.ensures in
    (omega (arith, e), omega arith)
