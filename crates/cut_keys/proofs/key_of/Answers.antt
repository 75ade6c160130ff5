-- `key_of`.
use mathlib.Core.Path.{refl, sym, ◌∙◌}
use native.Mathlib.Omega.{arith}
use borrow.Author.Tests.{eqb-true, eqb-false}
use Rattle.test_rules.proofs.Flowing.{same_period-is}
use Rattle.cut_keys.specs.Inner.{own_cut_by}
use Rattle.cut_keys.proofs.Collecting.{own_cut, other_cut, key_made, no_key}
use Rattle.cut_keys.proofs.key_of.Goals as goal

pub returns-then-eq-2 : goal.returns-then-eq-2
returns-then-eq-2 c =
    let a = c.args in
    let t = a.excesses in
    let own = own_cut t.test.grid.factors.constraints t.test.grid.factors.cells.now t.cells.now t.test.period a.c c.least_cut-cut.result.0 (sym (same_period-is a.c.period t.test.period) ∙ sym c.eq.ensures ∙ c.if-eq.true) c.least_cut-cut.ensures.0 in
    no_key a.number c.least_cut-cut.result.0 (own_cut_by t a.c) own (eqb-true c.least_cut-cut.result.0 0 (sym c.eq-then-eq.ensures ∙ c.if-eq-2.true))

pub returns-then-eq : goal.returns-then-eq
returns-then-eq c =
    let a = c.args in
    let t = a.excesses in
    let own = own_cut t.test.grid.factors.constraints t.test.grid.factors.cells.now t.cells.now t.test.period a.c c.least_cut-cut.result.0 (sym (same_period-is a.c.period t.test.period) ∙ sym c.eq.ensures ∙ c.if-eq.true) c.least_cut-cut.ensures.0 in
    let is = c.from.ensures in
    let never = eqb-false c.least_cut-cut.result.0 0 (sym c.eq-then-eq.ensures ∙ c.if-eq-2.false) in
    key_made a.number c.from.result (own_cut_by t a.c) (is ∙ own) (omega (arith, is))

pub returns : goal.returns
returns c =
    let a = c.args in
    let t = a.excesses in
    no_key a.number 0 (own_cut_by t a.c) (other_cut t.test.grid.factors.constraints t.test.grid.factors.cells.now t.cells.now t.test.period a.c (sym (same_period-is a.c.period t.test.period) ∙ sym c.eq.ensures ∙ c.if-eq.false)) refl
