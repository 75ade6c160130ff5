-- `base_count`: no share of a gainer is nought where the least is not.
use mathlib.Core.Path.{sym, ◌∙◌}
use native.Mathlib.Omega.{arith}
use borrow.Author.Tests.{eqb-false}
use Rattle.migration_pairs.proofs.Gaining.{least-ready, pairs-are}
use Rattle.migration_pairs.proofs.base_count.Goals as goal

pub share_of-least-requires : goal.share_of-least-requires
share_of-least-requires c =
    let s = c in
    let a = s.args in
    (s.requires.0, least-ready a.base.row.now a.base.loads.now a.base.contract a.gainers s.args.base.ready s.requires.0 s.requires.1)

pub returns : goal.returns
returns c =
    let s = c in
    let a = s.args in
    let share = c.share_of-least in
    let some = eqb-false share.result.0 0 (sym c.eq.ensures ∙ c.if-eq.false) in
    let is = pairs-are a.base.row.now a.base.loads.now a.base.contract a.gainers s.args.base.ready s.requires.0 s.requires.1 share.result.0 share.ensures.0 some in
    (is, omega (arith, s.requires.1.few, s.args.base.ready.few))
