-- `differ_set`: the bits from the last eight on are known.
use Rattle.std.proofs.Common.{refl, ap, ◌∙◌, ℕ, ◌+◌, ◌-◌, ◌*◌, ◌≤◌, arith}
use Rattle.lists.proofs.Sets.{set-turn, set-fits, set-end}
use Rattle.hour_priced.specs.Inner.{differ_at}
use Rattle.hour_priced.proofs.Rows.{row-part, differ_from}
use Rattle.hour_priced.proofs.differ_set.Goals as goal

pub eight_more-set-requires : goal.eight_more-set-requires
eight_more-set-requires c =
    let a = c.args in
    let l = c.loop-eight in
    let i = (l.eight - 1) * 8 in
    let f = differ_at a.table.cells.now a.source a.sink in
    let inside : i + 8 ≤ a.table.constraints = omega (arith, l.auto.eight) in
    let fits = set-fits 8 a.table.constraints (l.eight * 8) i f l.set _ (omega arith) (omega (arith, l.auto.eight)) l.invariant refl a.table.good.few in (
      row-part a.table.cells.now a.source a.table.constraints c.requires.0 i 8 inside,
      row-part a.table.cells.now a.sink a.table.constraints c.requires.1 i 8 inside,
      omega (arith, fits),
    )

pub loop-eight-preserved : goal.loop-eight-preserved
loop-eight-preserved c =
    let a = c.args in
    let l = c.loop-eight in
    let i = (l.eight - 1) * 8 in
    let f = differ_at a.table.cells.now a.source a.sink in
    c.eight_more-set.ensures ∙ ap (λ (x : ℕ). l.set * 256 + x) (differ_from a.table.cells.now a.source a.sink i 8)
    ∙ set-turn 8 a.table.constraints (l.eight * 8) i f l.set _ (omega arith) (omega (arith, l.auto.eight)) l.invariant refl

pub returns : goal.returns
returns c =
    let a = c.args in
    let l = c.loop-eight in
    set-end a.table.constraints (l.eight * 8) l.set (differ_at a.table.cells.now a.source a.sink) (omega arith) l.invariant
