-- `fill_shares`: the cells passed hold the shares passed, and those behind are as they were.
use mathlib.Core.Path.{sym, ap, ◌∙◌, subst}
use Prim.Native.Nat.{◌<◌}
use native.Mathlib.Omega.{arith}
use lib.ListN.{length, length-set}
use lib.IntN.{ℤ, pos}
use mir.Syntax.{w64}
use mir.Val.{to_z, of_z}
use mir.Facts.{to_z-of_z}
use Rattle.lists.specs.Lists.{list_to}
use Rattle.lists.specs.Lent.{overwrite}
use Rattle.lists.proofs.Fill.{fill_turn, rest-turn, fill_front}
use Rattle.lists.proofs.Lists.{length-list_to, get_d_list_to}
use Rattle.share_rules.specs.ShareBalance.{balance_share, shares_of}
use Rattle.share_rules.specs.Inner.{Cut}
use Rattle.share_balance.proofs.fill_shares.Goals as goal

pub share_at-requires : goal.share_at-requires
share_at-requires c =
    let s = c in
    let a = s.args in
    (subst (λ (z : ℤ). Cut z a.least a.demands.now a.wholes.now a.keys.now) (sym (to_z-of_z {w = w64} s.ranges.balance)) s.requires.0, omega arith)

pub loop-i-preserved : goal.loop-i-preserved
loop-i-preserved c =
    let a = c.args in
    let l = c.loop-i in
    let n = length a.demands.now in
    let F = balance_share (to_z w64 (of_z w64 a.balance)) a.demands.now in
    let h : l.i < n = omega arith in
    let v = to_z-of_z {w = w64} (record { sfits = c.share_at.type_inv }) ∙ c.share_at.ensures.0 ∙ sym (get_d_list_to n F l.i (pos 0) h) in (
      simp length-set (omega arith),
      fill_turn (list_to n F) l.shares l.i l.invariant.1 _ (pos 0) (omega arith) (rw (length-list_to n F) h) v,
      rest-turn l.shares a.shares.now l.i _ l.invariant.2,
    )

pub returns : goal.returns
returns c =
    let s = c in
    let a = s.args in
    let l = c.loop-i in
    let n = length a.demands.now in
    let z = to_z w64 (of_z w64 a.balance) in
    fill_front (shares_of z a.demands.now) l.shares a.shares.now l.i l.invariant.1 l.invariant.2 (rw (length-list_to n (balance_share z a.demands.now)) (omega arith))
    ∙ ap (λ (x : ℤ). overwrite (shares_of x a.demands.now) a.shares.now) (to_z-of_z {w = w64} s.ranges.balance)
