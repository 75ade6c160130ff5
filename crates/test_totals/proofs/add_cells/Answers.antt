-- `add_cells`: the cells passed have their flows, and those behind are as they were.
use mathlib.Core.Path.{◌≡◌, sym, ap, ◌∙◌}
use mathlib.Core.List.{List}
use Prim.Native.Nat.{ℕ, ◌+◌, ◌^◌, ◌<◌}
use native.Mathlib.Omega.{arith}
use lib.ListN.{get_or, drop, length-set}
use lib.IntN.{ℤ, pos, nat_abs, ◌+ℤ◌}
use Rattle.lists.specs.Lists.{list_to}
use Rattle.lists.proofs.Fill.{fill_turn, rest-turn, fill_front}
use Rattle.lists.proofs.Lists.{length-list_to, get_d_list_to}
use Rattle.test_rules.specs.declared.Flows.{Flows}
use Rattle.test_totals.specs.Inner.{Addable}
use Rattle.test_totals.proofs.Totalling.{sum_kept, cell_waits}
use Rattle.test_totals.proofs.add_cells.Goals as goal

-- cell j has its old flow still
small : (k : ℕ) (carried : Flows) (before out : List ℤ) → Addable k carried before → (j : ℕ) → j < k → drop j out ≡ drop j before
    → nat_abs (get_or out j (pos 0)) + nat_abs (get_or carried.flows j (pos 0)) < 2 ^ 63
small k carried before out h j b e = rw (cell_waits out before j e) (h.sums_small j b)

pub loop-k-preserved : goal.loop-k-preserved
loop-k-preserved c =
    let e = c in
    let s = e in
    let l = e.loop-k in
    let k = s.args.constraints in
    let f : ℕ → ℤ = λ j. get_or s.args.out.now j (pos 0) +ℤ get_or s.args.carried.flows j (pos 0) in
    let h : l.k < k = omega arith in
    let v = sum_kept (get_or l.out l.k (pos 0)) (get_or s.args.carried.flows l.k (pos 0)) c.add-sum.result.0 (small e.args.constraints e.args.carried _ e.loop-k.out e.requires e.loop-k.k (omega arith) e.loop-k.invariant.2) c.add-sum.ensures
    ∙ ap (λ (z : ℤ). z +ℤ get_or s.args.carried.flows l.k (pos 0)) (cell_waits l.out s.args.out.now l.k l.invariant.2)
    ∙ sym (get_d_list_to k f l.k (pos 0) h) in (
      length-set l.out l.k _ ∙ l.invariant.0,
      fill_turn (list_to k f) l.out l.k l.invariant.1 _ (pos 0) (omega (arith, s.requires.long, l.invariant.0)) (rw (length-list_to k f) h) v,
      rest-turn l.out s.args.out.now l.k _ l.invariant.2,
    )

pub returns : goal.returns
returns c =
    let s = c in
    let l = c.loop-k in
    let f : ℕ → ℤ = λ j. get_or s.args.out.now j (pos 0) +ℤ get_or s.args.carried.flows j (pos 0) in
    fill_front (list_to s.args.constraints f) l.out s.args.out.now l.k l.invariant.1 l.invariant.2
    (rw (length-list_to s.args.constraints f) (omega arith))
