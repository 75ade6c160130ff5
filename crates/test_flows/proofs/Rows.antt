-- A contract's flow on a constraint, by the rows of its ends, the flows on the first constraints in front of the rest, and what a table carries.
use Rattle.std.proofs.Common.{◌≡◌, sym, ap, subst, ◌∙◌, ℕ, ◌*◌, ◌≤◌, ◌<◌, ◌++◌, List, length, get_or, take, drop, arith, lit<, w64, to_z, of_z, ℤ, pos, nat_abs, ◌+ℤ◌, ◌-ℤ◌, ◌*ℤ◌}
use mathlib.Core.Path.{refl}
use lib.ListN.{get_or-append, length-append, take-append-drop}
use lib.Seq.{get_or-take, length-take-le}
use Rattle.integers.proofs.Machine.{back}
use Rattle.tariff.specs.declared.contracts.Contract.{Contract}
use Rattle.tariff.specs.Units.{factors_of, max_contracts, max_flow, max_factor}
use Rattle.tariff.specs.ContractRules.{counted, InRange}
use Rattle.tariff.specs.Feasibility.{flow}
use Rattle.grid_tables.specs.Inner.{RowOf}
use Rattle.test_rules.specs.declared.Flows.{Flows}
use Rattle.test_rules.specs.Carried.{Carries}
use Rattle.test_rules.specs.Inner.{Adds, FlowRoom}
use Rattle.test_rules.proofs.Flowing.{kept-sized, part_small, own_flow}
use Rattle.test_flows.specs.Inner.{Ends, flow_by, AddsRows}

-- y is what the machine gives of the two rows
module _ (source sink : List ℤ) (c : Contract) (own : Ends source sink c) (j : ℕ) (b : j < length source)
    (y : ℤ) (is : y ≡ counted c.kind ((to_z w64 (of_z w64 (get_or source j (pos 0))) -ℤ to_z w64 (of_z w64 (get_or sink j (pos 0)))) *ℤ pos c.quantity.0)) where
  pub row-flow : y ≡ flow_by source sink c j
  row-flow =
      is ∙ rw (back (get_or source j (pos 0)) (omega (arith, own.source-sized j b)), back (get_or sink j (pos 0)) (omega (arith, own.sink-sized j b))) refl

  pub row-small : nat_abs y ≤ max_flow
  row-small =
      part_small y (to_z w64 (of_z w64 (get_or source j (pos 0)))) (to_z w64 (of_z w64 (get_or sink j (pos 0)))) c.kind c.quantity.0 is (kept-sized (get_or source j (pos 0)) max_factor (lit< tt) (own.source-sized j b)) (kept-sized (get_or sink j (pos 0)) max_factor (lit< tt) (own.sink-sized j b))
      own.quantity-sized

-- the rows of a contract's ends in a table
module _ (n k : ℕ) (fs : List ℤ) (c : Contract) (own : InRange n c) (source sink : List ℤ) (from : RowOf n k fs c.source source) (to : RowOf n k fs c.sink sink) where
  pub rows_in : Ends source sink c
  rows_in =
      record {
        long = to.long ∙ sym from.long;
        source-sized = λ j b. from.sized j (omega (arith, from.long));
        sink-sized = λ j b. to.sized j (omega (arith, from.long));
        quantity-sized = own.quantity-sized;
      }

  -- the flow is the same however many nodes the table has beside the contract's ends
  flow-same : (m : ℕ) → InRange m c → (j : ℕ) → j < k → flow_by source sink c j ≡ flow (factors_of m k fs) c j
  unfolding flow
  flow-same m h j b =
      rw (from.cell j b, to.cell j b) (sym (own_flow n k fs c own j b) ∙ own_flow m k fs c h j b)

  -- what was added by the rows was added by the table
  pub rows_added : (old new : List ℤ) → AddsRows source sink c old new → Adds k fs c old new
  rows_added old new adds =
      record {
        length-kept = adds.length-kept;
        flows-added = λ m h j b. adds.flows-added j (omega (arith, from.long)) ∙ ap (λ (z : ℤ). get_or old j (pos 0) +ℤ z) (flow-same m h j b);
      }

-- of n flows, those on the first k
module _ (k : ℕ) (flows : List ℤ) (room : FlowRoom k flows) where
  pub front-long : length (take k flows) ≡ k
  front-long = length-take-le k flows (omega (arith, room.few, room.all))

  -- a cell that has its old flow still
  pub front-sized : (j : ℕ) → j < k → (x : ℤ) → x ≡ get_or (take k flows) j (pos 0) → nat_abs x ≤ max_flow * max_contracts
  front-sized j b x e = rw (e, get_or-take k flows j (pos 0) b) (room.flows-sized j b)

  module _ (front : List ℤ) (long : length front ≡ k) where
    pub joined-long : length (front ++ drop k flows) ≡ length flows
    joined-long = omega (arith, long, length-append front (drop k flows), length-append (take k flows) (drop k flows), ap length (take-append-drop k flows), front-long)

    pub joined-cell : (j : ℕ) → j < k → (z : ℤ) → get_or front j (pos 0) ≡ get_or (take k flows) j (pos 0) +ℤ z → get_or (front ++ drop k flows) j (pos 0) ≡ get_or flows j (pos 0) +ℤ z
    joined-cell j b z e = rw (get_or-append front (drop k flows) (pos 0) j (omega (arith, long)), e, get_or-take k flows j (pos 0) b) refl

-- what is carried by a table is carried by the counts and cells that it was made of
pub carried-of : {n m k l : ℕ} {fs gs : List ℤ} {cs : List Contract} {carried : Flows} → n ≡ m → k ≡ l → fs ≡ gs → Carries (factors_of n k fs) cs carried → Carries (factors_of m l gs) cs carried
carried-of {n} {m} {k} {l} {fs} {gs} {cs} {carried} same-nodes same-constraints same-cells h =
    let nodes = subst (λ (x : ℕ). Carries (factors_of x k fs) cs carried) same-nodes h in
    let counts = subst (λ (x : ℕ). Carries (factors_of m x fs) cs carried) same-constraints nodes in
    subst (λ (x : List ℤ). Carries (factors_of m l x) cs carried) same-cells counts
