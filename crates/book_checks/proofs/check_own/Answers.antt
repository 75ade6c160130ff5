-- `check_own`.
use mathlib.Core.Path.{sym, ◌∙◌}
use Rattle.tariff.proofs.Checks.{first_passes, first-refuses}
use Rattle.book_rules.specs.BookChecks.{own_checks}
use Rattle.book_checks.proofs.check_own.Goals as goal

pub returns-then-nodes_bad : goal.returns-then-nodes_bad
unfolding own_checks
returns-then-nodes_bad c = sym (first-refuses _ _ (sym c.nodes_bad.ensures ∙ c.if-nodes_bad.true))

pub returns : goal.returns
unfolding own_checks
returns c = let n = c in c.check_book.ensures ∙ sym (first_passes _ _ (sym n.nodes_bad.ensures ∙ n.if-nodes_bad.false))
