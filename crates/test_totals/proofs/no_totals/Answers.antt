-- `no_totals`: the whole slice is searched.
use mathlib.Core.Path.{sym, ap, ◌∙◌}
use native.Mathlib.Omega.{arith}
use borrow.Author.Tests.{lt-ltb, le-ltb}
use lib.ListN.{length}
use lib.Seq.{take_all}
use Rattle.lists.specs.Lists.{any_of}
use Rattle.test_totals.specs.Totals.{max_summed, beyond, no_totals_of}
use Rattle.test_totals.proofs.no_totals.Goals as goal

pub returns-then-count-gt-MAX_SUMMED : goal.returns-then-count-gt-MAX_SUMMED
unfolding no_totals_of
returns-then-count-gt-MAX_SUMMED c = rw (lt-ltb max_summed c.args.count c.if-count-gt-MAX_SUMMED.true)

pub returns-else-count-gt-MAX_SUMMED : goal.returns-else-count-gt-MAX_SUMMED
unfolding no_totals_of
returns-else-count-gt-MAX_SUMMED c =
    let flows = c.args.flows.now in
    rw (le-ltb max_summed c.args.count c.if-count-gt-MAX_SUMMED.false)
    (c.flows_beyond.ensures ∙ ap (any_of (beyond c.args.count)) (sym (take_all (length flows) flows (omega arith))))
