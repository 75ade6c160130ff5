-- `raised`.
use mathlib.Core.Path.{refl, ap, ◌∙◌}
use mathlib.Core.Bool.{cond}
use lib.Dec.{leb}
use lib.IntN.{ℤ, ◌-ℤ◌}
use Rattle.tariff.specs.ContractRules.{counted}
use Rattle.integers.proofs.Linear.{*ℤ-pos1}
use Rattle.cut_rules.specs.Inner.{need_at}
use Rattle.cut_rules.proofs.Turns.{raise_short, raise_enough}
use Rattle.cut_needs.proofs.Reliefs.{relief_of, over-so, within-so}
use Rattle.cut_needs.proofs.raised.Goals as goal

pub returns-then-lt : goal.returns-then-lt
returns-then-lt c =
    let x = c in
    let s = x in
    let a = s.args in
    let w = counted a.kind (a.source -ℤ a.sink) in
    let slope = relief_of a.kind a.source a.sink _ 1 s.requires.source_bound.0 s.requires.source_bound.1 c.counted_flow-slope.ensures ∙ *ℤ-pos1 w in
    let over = over-so a.over.0 a.over.0 _ _ refl (relief_of a.kind a.source a.sink _ a.need.0 s.requires.source_bound.0 s.requires.source_bound.1 c.counted_flow-relief.ensures) x.lt.result x.lt.ensures c.if-lt.true in
    c.cut_needed.ensures
    ∙ ap (λ (z : ℤ). cond (leb (need_at a.over.0 z) a.most.0) (need_at a.over.0 z) 0) slope
    ∙ raise_short a.over.0 w a.need.0 a.most.0 over

pub returns : goal.returns
returns c =
    let x = c in
    let s = x in
    let a = s.args in
    let within = within-so a.over.0 a.over.0 _ _ refl (relief_of a.kind a.source a.sink _ a.need.0 s.requires.source_bound.0 s.requires.source_bound.1 c.counted_flow-relief.ensures) x.lt.result x.lt.ensures c.if-lt.false in
    raise_enough a.over.0 (counted a.kind (a.source -ℤ a.sink)) a.need.0 a.most.0 s.requires.pos_bound s.requires.source_bound.2 within
