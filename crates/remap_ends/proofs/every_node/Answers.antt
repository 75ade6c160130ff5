-- `every_node`: those passed stand for themselves.
use mathlib.Core.Path.{◌≡◌, ◌∙◌}
use Prim.Native.Nat.{ℕ}
use native.Mathlib.Omega.{arith}
use mathlib.Core.List.{List}
use lib.ListN.{length, drop, replicate, length-drop, length-replicate, get_or-append, length-append}
use lib.Seq.{length-take-le}
use Rattle.remap_rules.specs.RemapBook.{moved_end}
use Rattle.remap_rules.proofs.Moving.{node_stored}
use Rattle.remap_ends.proofs.every_node.Goals as goal

pub loop-node-init : goal.loop-node-init
loop-node-init c = λ i h. absurd (omega arith)

pub loop-node-preserved : goal.loop-node-preserved
loop-node-preserved c =
    let l = c.loop-node in
    node_stored l.end-items l.node (omega arith) l.invariant

pub returns : goal.returns
unfolding moved_end
returns c =
    let l = c.loop-node in
    let n = c.args.nodes in
    let cells : List ℕ = replicate 4000 0 in
    let all : length cells ≡ 4000 = length-replicate {A = ℕ} 4000 0 in
    let front = length-take-le n cells (omega (arith, all, c.requires)) in
    let long : length l.end-items ≡ n = l.auto.end-items ∙ front in
    let rest = length-drop n cells in
    record {
      size = omega (arith, length-append l.end-items (drop n cells), long, rest, all, c.requires);
      each = λ e h. get_or-append l.end-items (drop n cells) 0 e (omega (arith, long)) ∙ l.invariant e (omega (arith, c.loop-node-test.false, front));
    }
