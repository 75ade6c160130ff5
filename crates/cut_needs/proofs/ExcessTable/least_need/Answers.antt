-- `least_need`: the need of the constraints below k.
use mathlib.Core.Path.{◌≡◌, sym, ap, ◌∙◌}
use Prim.Native.Nat.{ℕ, ◌+◌, ◌≤◌, ◌<◌}
use native.Mathlib.Omega.{arith}
use lib.IntN.{ℤ, pos, ◌-ℤ◌}
use lib.ListN.{get_or}
use lib.Signed.{lt_z, ◌<ℤ◌, lt_z_yes, lt_z_no}
use mathlib.Core.Bool.{true}
use mathlib.Core.List.{List}
use Rattle.integers.proofs.Machine.{back}
use Rattle.tariff.specs.declared.contracts.Contract.{Contract}
use Rattle.tariff.specs.ContractRules.{counted, InRange}
use Rattle.tariff.specs.declared.units.Quantity.{Quantity}
use Rattle.grid_tables.specs.Inner.{GoodFactors, RowOf}
use borrow.Author.Tests.{eqb-true, eqb-false}
use Rattle.cut_rules.specs.Inner.{need, raised_to, enough}
use Rattle.cut_rules.proofs.Turns.{need-before, need-behind, need-kept, need-raised, need-none, need-end}
use Rattle.cut_needs.specs.Inner.{Excesses, cell_at, slope_in, cut_in}
use Rattle.cut_needs.proofs.Reliefs.{kept, slope-is, nothing}
use Rattle.cut_needs.proofs.ExcessTable.least_need.Goals.{then-self-k-gt0+else-eq, else-self-k-gt0}
use Rattle.cut_needs.proofs.ExcessTable.least_need.Goals as goal

pub loop-k-init : goal.loop-k-init
loop-k-init c =
    let t = c.args.self in
    let o = t.overloads in
    (o.from_below, omega arith, need-before (cell_at t.cells.now) (slope_in t.test.grid.factors.constraints t.test.grid.factors.cells.now c.args.c) t.from o.none_before)

-- an overloaded constraint k: what `raised` gives, over the contract's slope and quantity
module _ (m n : ℕ) (fs es : List ℤ) (good : GoodFactors m n fs) (d : Contract) (own : InRange m d) (source sink : List ℤ) (first : RowOf m n fs d.source source)
    (last : RowOf m n fs d.sink sink) (cells : Excesses n es) (k : ℕ) (b : k < n) where
  same : kept (cell_at es k) ≡ cell_at es k
  same = back (cell_at es k) (cells.sized k b)

  overloaded : lt_z (pos 0) (kept (cell_at es k)) ≡ true → pos 0 <ℤ cell_at es k
  overloaded e = rw same at (lt_z_yes {a = pos 0} {b = kept (cell_at es k)} (rw e tt))

  raised_is : (z before : ℕ) → z ≡ raised_to (kept (cell_at es k)) (counted d.kind (kept (get_or source k (pos 0)) -ℤ kept (get_or sink k (pos 0)))) d.quantity.0 before
      → z ≡ raised_to (cell_at es k) (slope_in n fs d k) d.quantity.0 before
  raised_is z before e = let slope = slope-is m n fs good d own source sink first last k b in e ∙ (λ i. raised_to (same i) (slope i) d.quantity.0 before)

pub returns-then-eq : goal.returns-then-eq
unfolding cut_in
returns-then-eq c =
    let t = c.args.self in
    let f = t.test.grid.factors in
    let d = c.args.c in
    let k = c.loop-k.k in
    let h : k < f.constraints = omega (arith, c.loop-k-test.true, t.overloads.upto_below) in
    let e = cell_at t.cells.now in
    let w = slope_in f.constraints f.cells.now d in
    let is = raised_is f.nodes f.constraints f.cells.now t.cells.now f.good d c.requires _ _ c.row-source.ensures c.row-sink.ensures t.sized k h c.raised-need.result.0 c.loop-k.need.0 c.raised-need.ensures in
    let found = eqb-true c.raised-need.result.0 0 (sym c.eq.ensures ∙ c.if-eq.true) in
    let over = overloaded f.nodes f.constraints f.cells.now t.cells.now f.good d c.requires _ _ c.row-source.ensures c.row-sink.ensures t.sized k h c.if-self-k-gt0.true in
    let none = need-none e w k c.loop-k.need.0 d.quantity.0 c.raised-need.result.0 is f.constraints h over found in
    (omega (arith, found), none ∙ rw found (nothing (enough f.constraints e w 0)))

pub loop-k-preserved : goal.loop-k-preserved
loop-k-preserved c =
    let t = c.args.self in
    let f = t.test.grid.factors in
    let l = c.loop-k in
    let h : l.k < f.constraints = omega (arith, c.loop-k-test.true, t.overloads.upto_below) in
    let q = c.args.c.quantity.0 in
    let e = cell_at t.cells.now in
    let w = slope_in f.constraints f.cells.now c.args.c in
    let most : l.need.0 ≤ q = l.invariant.1 in
    let next : (c.if-self-k-gt0.need.0 ≤ q) × (c.if-self-k-gt0.need.0 ≡ need (l.k + 1) e w) =
    elim c.if-self-k-gt0.branch [
      | then-self-k-gt0+else-eq v ↦
          let is = raised_is f.nodes f.constraints f.cells.now t.cells.now f.good c.args.c c.requires _ _ c.row-source.ensures c.row-sink.ensures t.sized l.k h v.raised-need.result.0 l.need.0 v.raised-need.ensures in
          let some = eqb-false v.raised-need.result.0 0 (sym v.eq.ensures ∙ v.if-eq.false) in
          let r = need-raised e w l.k l.need.0 q v.raised-need.result.0 is l.invariant.2 most some in
          (rw v.need-is r.1, ap (λ (z : Quantity). z.0) v.need-is ∙ r.0)
      | else-self-k-gt0 v ↦ (rw v.need-is most, ap (λ (z : Quantity). z.0) v.need-is ∙ need-kept e w l.k l.need.0 l.invariant.2 (rw (back (e l.k) (t.sized.sized l.k h)) at (lt_z_no {a = pos 0} {b = kept (e l.k)} (rw v.if-self-k-gt0.false tt))))
    ] in
    (omega (arith, c.loop-k-test.true, t.overloads.upto_below), next.0, next.1)

pub returns : goal.returns
unfolding cut_in
returns c =
    let t = c.args.self in
    let f = t.test.grid.factors in
    let l = c.loop-k in
    let e = cell_at t.cells.now in
    let w = slope_in f.constraints f.cells.now c.args.c in
    let all = need-behind e w l.k f.constraints l.invariant.0 (λ j a b. t.overloads.none-behind j (omega arith) b) in
    (l.invariant.1, need-end e w f.constraints l.need.0 c.args.c.quantity.0 (l.invariant.2 ∙ all) l.invariant.1)
