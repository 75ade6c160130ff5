-- `fill_mcc`: the cells passed hold the MCCs passed.
use Rattle.std.proofs.Common.{◌≡◌, ◌<◌, ◌∙◌, sym, ap₂, arith, pos, w64, to_z-of_z, drop, ◌++◌, ℕ, ap}
use Rattle.std.proofs.Math.ListN.{length-set}
use Rattle.std.proofs.Math.Seq.{take_all}
use Rattle.lists.proofs.Fill.{fill_turn}
use Rattle.lists.proofs.Lists.{length-list_to, get_d_list_to}
use Rattle.lists.specs.Lists.{list_to}
use Rattle.hour_mcc.specs.Inner.{mcc_in}
use Rattle.hour_mcc.proofs.fill_mcc.Goals as goal

pub loop-node-preserved : goal.loop-node-preserved
loop-node-preserved c =
    let a = c.args in
    let l = c.loop-node in
    let f = mcc_in a.hour in
    let h : l.node < a.hour.factors.nodes = omega arith in
    let v = to_z-of_z {w = w64} (record { sfits = c.from.type_inv }) ∙ c.from.ensures ∙ c.node_mcc.ensures.0 ∙ sym (get_d_list_to a.hour.factors.nodes f l.node (pos 0) h) in (
      simp length-set (omega arith),
      fill_turn (list_to a.hour.factors.nodes f) l.cell-items l.node l.invariant.1 _ (pos 0) (omega arith) (rw (length-list_to a.hour.factors.nodes f) h) v,
    )

pub returns : goal.returns
returns c =
    let a = c.args in
    let l = c.loop-node in
    let f = mcc_in a.hour in
    let long = length-list_to a.hour.factors.nodes f in
    let all : l.cell-items ≡ list_to a.hour.factors.nodes f = sym (take_all l.node l.cell-items (omega arith)) ∙ l.invariant.1 ∙ take_all l.node (list_to a.hour.factors.nodes f) (rw long (omega arith)) in
    ap₂ ◌++◌ all (ap (λ (n : ℕ). drop n a.out.now) (sym long))
