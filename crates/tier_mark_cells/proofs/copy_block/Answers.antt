-- `copy_block`: the cells passed are the source's.
use mathlib.Core.Path.{◌≡◌, refl, ap, ◌∙◌}
use Prim.Native.Nat.{ℕ, ◌+◌}
use native.Mathlib.Omega.{arith}
use lib.ListN.{get_or, drop, length-set}
use lib.Seq.{paste, paste-zero}
use lib.IntN.{ℤ, pos}
use mir.Syntax.{w64}
use mir.Val.{to_z, of_z}
use Rattle.std.proofs.Common.{rules}
use Rattle.tariff.specs.Units.{max_constraints}
use Rattle.tier_mark_rules.proofs.Marks.{copy_turn}
use Rattle.tier_mark_cells.proofs.copy_block.Goals as goal

pub loop-k-init : goal.loop-k-init
loop-k-init c = (refl, paste-zero c.args.flows.now c.args.to (drop c.args.from c.args.flows.now))

-- what is stored is the cell itself
stored : (c : goal.After-same_flow) → let l = c.loop-k in to_z w64 (of_z w64 c.same_flow.result) ≡ get_or l.flows (c.args.from + l.k) (pos 0)
stored c =
    let l = c.loop-k in
    let x = get_or l.flows (c.args.from + l.k) (pos 0) in
    let back : to_z w64 (of_z w64 x) ≡ x = search rules in
    ap (λ (z : ℤ). to_z w64 (of_z w64 z)) (c.same_flow.ensures ∙ back) ∙ back

pub loop-k-preserved : goal.loop-k-preserved
loop-k-preserved c =
    let a = c.args in
    let l = c.loop-k in (
      length-set l.flows (a.to + l.k) _ ∙ l.invariant.0,
      copy_turn a.flows.now l.flows a.from a.to l.k c.requires (omega (arith, l.auto)) l.invariant.1 _ (stored c),
    )

pub returns : goal.returns
returns c =
    let a = c.args in
    let l = c.loop-k in
    let last : l.k ≡ max_constraints = omega (arith, l.auto) in
    l.invariant.1 ∙ ap (λ (n : ℕ). paste a.flows.now a.to (drop a.from a.flows.now) n) last
