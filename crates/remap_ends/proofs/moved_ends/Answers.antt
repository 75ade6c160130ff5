-- `moved_ends`: the pairs from i on are in the table.
use mathlib.Core.Path.{◌≡◌, sym, ◌∙◌}
use Prim.Native.Nat.{suc, ◌-◌, ◌≤◌, ◌<◌}
use native.Mathlib.Omega.{arith}
use lib.ListN.{get_or, length-set}
use Rattle.tariff.specs.Units.{max_nodes}
use Rattle.remap_rules.specs.RemapBook.{moved_end}
use Rattle.remap_rules.proofs.Moving.{no_pairs, pair_stored}
use Rattle.remap_ends.proofs.moved_ends.Goals as goal

pub every_node-ends-requires : goal.every_node-ends-requires
every_node-ends-requires c = c.requires.few

pub loop-i-init : goal.loop-i-init
unfolding moved_end
loop-i-init c =
    let a = c.args in
    (c.every_node-ends.ensures.size, λ e h. c.every_node-ends.ensures.each e h ∙ sym (no_pairs a.old.now a.new.now e))

pub bounds-new-i : goal.bounds-new-i
bounds-new-i c = omega (arith, c.requires.pairs)

pub offset_bounds-ends-new : goal.offset_bounds-ends-new
offset_bounds-ends-new c =
    let pair_at = c.loop-i.i - 1 in
    let pair-below : (get_or c.args.old.now pair_at 0 < c.args.nodes) × (get_or c.args.new.now pair_at 0 < c.args.nodes) × (c.args.nodes ≤ max_nodes) = let p = c.requires in
    (p.old_below pair_at (omega arith), p.new-below pair_at (omega (arith, p.pairs)), p.few) in
    record { fits = omega (arith, pair-below) }

pub bounds-ends-new : goal.bounds-ends-new
bounds-ends-new c =
    let pair_at = c.loop-i.i - 1 in
    let pair-below : (get_or c.args.old.now pair_at 0 < c.args.nodes) × (get_or c.args.new.now pair_at 0 < c.args.nodes) × (c.args.nodes ≤ max_nodes) = let p = c.requires in
    (p.old_below pair_at (omega arith), p.new-below pair_at (omega (arith, p.pairs)), p.few) in
    omega (arith, pair-below)

pub offset_bounds-ends-old : goal.offset_bounds-ends-old
offset_bounds-ends-old c =
    let pair_at = c.loop-i.i - 1 in
    let pair-below : (get_or c.args.old.now pair_at 0 < c.args.nodes) × (get_or c.args.new.now pair_at 0 < c.args.nodes) × (c.args.nodes ≤ max_nodes) = let p = c.requires in
    (p.old_below pair_at (omega arith), p.new-below pair_at (omega (arith, p.pairs)), p.few) in
    record { fits = omega (arith, pair-below) }

pub bounds-ends-old : goal.bounds-ends-old
bounds-ends-old c =
    let pair_at = c.loop-i.i - 1 in
    let pair-below : (get_or c.args.old.now pair_at 0 < c.args.nodes) × (get_or c.args.new.now pair_at 0 < c.args.nodes) × (c.args.nodes ≤ max_nodes) = let p = c.requires in
    (p.old_below pair_at (omega arith), p.new-below pair_at (omega (arith, p.pairs)), p.few) in
    omega (arith, pair-below)

pub loop-i-preserved : goal.loop-i-preserved
loop-i-preserved c =
    let pair_at = c.loop-i.i - 1 in
    let pair-below : (get_or c.args.old.now pair_at 0 < c.args.nodes) × (get_or c.args.new.now pair_at 0 < c.args.nodes) × (c.args.nodes ≤ max_nodes) = let p = c.requires in
    (p.old_below pair_at (omega arith), p.new-below pair_at (omega (arith, p.pairs)), p.few) in
    let l = c.loop-i in
    let next : suc (l.i - 1) ≡ l.i = omega arith in (
      simp length-set l.invariant.0,
      pair_stored c.args.nodes c.args.old.now c.args.new.now l.ends (l.i - 1) (omega arith) (omega (arith, c.requires.pairs))
          (omega (arith, pair-below, l.invariant.0)) pair-below.1 (rw next l.invariant.1),
    )

pub returns : goal.returns
returns c =
    let l = c.loop-i in
    let none : l.i ≡ 0 = omega arith in
    record { size = l.invariant.0; each = rw none at l.invariant.1 }
