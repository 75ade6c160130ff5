-- `four_bad`: each answer is of the cell itself.
use mathlib.Core.Path.{◌≡◌, ◌∙◌}
use mathlib.Core.Bool.{◌||◌}
use borrow.Author.Rules.{rules}
use lib.ListN.{get_or}
use lib.IntN.{pos}
use Rattle.tariff.specs.Checks.{factor_bad_of}
use Rattle.grid_tables.proofs.Factors.{four_any}
use Rattle.grid_tables.proofs.four_bad.Goals as goal

pub returns : goal.returns
returns c =
    let fs = c.args.four.now in
    let one : c.factor_bad.result ≡ factor_bad_of (get_or fs 0 (pos 0)) = search rules in
    let two : c.factor_bad-2.result ≡ factor_bad_of (get_or fs 1 (pos 0)) = search rules in
    let three : c.factor_bad-3.result ≡ factor_bad_of (get_or fs 2 (pos 0)) = search rules in
    let four : c.factor_bad-4.result ≡ factor_bad_of (get_or fs 3 (pos 0)) = search rules in
    (λ t. one t || two t || three t || four t) ∙ four_any fs (search rules)
