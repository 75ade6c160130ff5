-- `factor_bad_in`: no factor passed is out of range. The place of the factor of node j on constraint c is j × constraints + c.
-- where the first factor stands, and all of them
use Rattle.bits.specs.Bits.{field}
use Rattle.grid_rules.specs.Inner.{Counted}
use mathlib.Core.List.{List}
use mathlib.Core.Path.{◌≡◌, ap, ◌∙◌}
use mathlib.Core.Bool.{Bool}
use Prim.Native.Nat.{ℕ, ◌+◌, ◌*◌, ◌≤◌, ◌<◌}
use native.Mathlib.Nat.{mul-le-mul_right}
use native.Mathlib.Omega.{arith}
use borrow.Author.Rules.{rules}
use lib.ListN.{length, get_or}
use Rattle.lists.proofs.Search.{any_of_start, any_of_end}
use Rattle.bits.specs.Signed.{to_int}
use Rattle.bits.proofs.Fields.{within}
use Rattle.tariff.specs.Checks.{factor_bad_of}
use Rattle.grid_tables.proofs.Factors.{place-in, bad_so_far, bad_found, bad_turn}
use Rattle.layouts.specs.GridFile.{factor_width}
use Rattle.layouts.proofs.GridFile.{length-factors}
use Rattle.grid_rules.proofs.Factors.{factor-from}
use Rattle.grid_rules.proofs.Passing.{short-file, late_factors, factors-are}
use Rattle.grid_figures.proofs.factor_bad_in.Invariants.{all, start}
use Rattle.grid_figures.proofs.factor_bad_in.Goals as goal

module _ (s : List ℕ) (header nodes constraints : ℕ) (counted : Counted s header nodes constraints) (node constraint : ℕ) where
  -- the place of the next factor
  abbrev next : ℕ
  next = node * constraints + constraint

  fits : start header constraints + factor_width * (nodes * constraints) ≤ 8 * length s
  fits = omega (arith, counted.size)

  module _ (early : node < nodes) (few : constraint < constraints) where
    -- it is one of the file's
    inside : next < nodes * constraints
    inside = place-in nodes constraints node constraint early few

    module _ (at : ℕ) (place : at ≡ start header constraints + factor_width * next) where
      -- and lies in it
      room : at + factor_width ≤ 8 * length s
      room = within (start header constraints) factor_width (nodes * constraints) next _ at inside place fits

      -- the answer is of that factor
      same : (bits : ℕ) → (bad : Bool) → bits ≡ field s at factor_width → bad ≡ factor_bad_of (to_int factor_width bits)
          → bad ≡ factor_bad_of (get_or (all s header nodes constraints) next (to_int factor_width 0))
      same bits bad is of_bits = of_bits ∙ ap factor_bad_of (factor-from s header nodes constraints next at _ inside fits place is)

pub nodes-init : goal.nodes-init
nodes-init c = let k = c.args.grid.size.constraints in
    let fs = all c.args.grid.bytes.now c.args.grid.size.header c.args.grid.size.nodes c.args.grid.size.constraints in
    (search rules, omega arith, bad_so_far fs 0 (0 * k) (omega arith) (any_of_start factor_bad_of))

pub loop-constraint-init : goal.loop-constraint-init
loop-constraint-init c =
    let a = c.args in
    let n = c.nodes in
    let fs = all a.grid.bytes.now a.grid.size.header a.grid.size.nodes a.grid.size.constraints in
    (n.invariant.0, omega arith, bad_so_far fs (n.node * a.grid.size.constraints) (n.node * a.grid.size.constraints + 0) (omega arith) n.invariant.2)

pub load_field-requires : goal.load_field-requires
load_field-requires c =
    let s = c in
    let a = s.args in
    let late = late_factors a.grid.bytes.now a.grid.size.header a.grid.size.nodes a.grid.size.constraints s.args.grid.counted (next c.args.grid.bytes.now c.args.grid.size.header c.args.grid.size.nodes c.args.grid.size.constraints c.args.grid.counted c.nodes.node c.loop-constraint.constraint) (inside c.args.grid.bytes.now c.args.grid.size.header c.args.grid.size.nodes c.args.grid.size.constraints c.args.grid.counted c.nodes.node c.loop-constraint.constraint (omega arith) (omega arith)) in record { bound = (omega (arith, late, c.loop-constraint.invariant.1), room c.args.grid.bytes.now c.args.grid.size.header c.args.grid.size.nodes c.args.grid.size.constraints c.args.grid.counted c.nodes.node c.loop-constraint.constraint (omega arith) (omega arith) c.loop-constraint.at c.loop-constraint.invariant.1); offset_bound = (omega (arith, room c.args.grid.bytes.now c.args.grid.size.header c.args.grid.size.nodes c.args.grid.size.constraints c.args.grid.counted c.nodes.node c.loop-constraint.constraint (omega arith) (omega arith) c.loop-constraint.at c.loop-constraint.invariant.1, short-file a.grid.bytes.now _ _ _ s.args.grid.counted), search rules, search rules) }

pub overflow_add-at-in-loop-constraint : goal.overflow_add-at-in-loop-constraint
overflow_add-at-in-loop-constraint c =
    let s = c in
    omega (arith, room c.args.grid.bytes.now c.args.grid.size.header c.args.grid.size.nodes c.args.grid.size.constraints c.args.grid.counted c.nodes.node c.loop-constraint.constraint (omega arith) (omega arith) c.loop-constraint.at c.loop-constraint.invariant.1, short-file s.args.grid.bytes.now _ _ _ s.args.grid.counted)

pub loop-constraint-preserved : goal.loop-constraint-preserved
loop-constraint-preserved c =
    let a = c.args in
    let j = c.nodes.node in
    let l = c.loop-constraint in
    let fs = all a.grid.bytes.now a.grid.size.header a.grid.size.nodes a.grid.size.constraints in
    let i = j * a.grid.size.constraints + l.constraint in
    let one : i < length fs = rw length-factors (inside c.args.grid.bytes.now c.args.grid.size.header c.args.grid.size.nodes c.args.grid.size.constraints c.args.grid.counted c.nodes.node c.loop-constraint.constraint (omega arith) (omega arith)) in (
      l.invariant.0,
      omega arith,
      bad_so_far fs (i + 1) (j * a.grid.size.constraints + (l.constraint + 1)) (omega arith) (bad_turn fs i (to_int factor_width 0) _ one (same c.args.grid.bytes.now c.args.grid.size.header c.args.grid.size.nodes c.args.grid.size.constraints c.args.grid.counted c.nodes.node c.loop-constraint.constraint (omega arith) (omega arith) c.loop-constraint.at c.loop-constraint.invariant.1 _ _ c.load_field.ensures.0 c.bits_bad.ensures) c.if-bits_bad.false l.invariant.2),
    )

pub nodes-preserved : goal.nodes-preserved
nodes-preserved c =
    let a = c.args in
    let j = c.nodes.node in
    let l = c.loop-constraint in
    let fs = all a.grid.bytes.now a.grid.size.header a.grid.size.nodes a.grid.size.constraints in
    let next : j * a.grid.size.constraints + l.constraint ≡ (j + 1) * a.grid.size.constraints = omega arith in
    (l.invariant.0, omega arith, bad_so_far fs (j * a.grid.size.constraints + l.constraint) ((j + 1) * a.grid.size.constraints) next l.invariant.2)

pub returns-after-nodes : goal.returns-after-nodes
returns-after-nodes c =
    let s = c in
    let a = s.args in
    let n = c.nodes in
    let past : a.grid.size.nodes * a.grid.size.constraints ≤ n.node * a.grid.size.constraints = mul-le-mul_right a.grid.size.constraints c.nodes-test.false in
    rw (factors-are a.grid.bytes.now a.grid.size.header a.grid.size.nodes a.grid.size.constraints s.args.grid.counted) at
    (n.invariant.0 ∙ any_of_end factor_bad_of (all a.grid.bytes.now a.grid.size.header a.grid.size.nodes a.grid.size.constraints) (n.node * a.grid.size.constraints) (rw length-factors past) n.invariant.2)

pub returns-then-bits_bad : goal.returns-then-bits_bad
returns-then-bits_bad c =
    let s = c in
    let a = s.args in
    let l = c in
    rw (factors-are a.grid.bytes.now a.grid.size.header a.grid.size.nodes a.grid.size.constraints s.args.grid.counted) at
    (bad_found (all a.grid.bytes.now a.grid.size.header a.grid.size.nodes a.grid.size.constraints) (next c.args.grid.bytes.now c.args.grid.size.header c.args.grid.size.nodes c.args.grid.size.constraints c.args.grid.counted c.nodes.node c.loop-constraint.constraint) (to_int factor_width 0) _ (rw length-factors (inside c.args.grid.bytes.now c.args.grid.size.header c.args.grid.size.nodes c.args.grid.size.constraints c.args.grid.counted c.nodes.node c.loop-constraint.constraint (omega arith) (omega arith))) (same c.args.grid.bytes.now c.args.grid.size.header c.args.grid.size.nodes c.args.grid.size.constraints c.args.grid.counted c.nodes.node c.loop-constraint.constraint (omega arith) (omega arith) c.loop-constraint.at c.loop-constraint.invariant.1 _ _ c.load_field.ensures.0 c.bits_bad.ensures) c.if-bits_bad.true)
