-- `drop_marks`: one tier after the other.
use mathlib.Core.Path.{◌≡◌, refl, ap, ◌∙◌}
use mathlib.Core.List.{List}
use Prim.Native.Nat.{ℕ, zero, suc, ◌+◌, ◌-◌, ◌≤◌}
use native.Mathlib.Omega.{arith}
use Rattle.tier_rules.specs.Checks.{max_tier}
use Rattle.tier_rules.specs.Cells.{drop_mark_of, drop_marks_of}
use Rattle.tier_mark_rules.proofs.Marks.{drop-taken, drop-left}
use Rattle.tier_mark_cells.proofs.drop_marks.Goals as goal
use Rattle.tier_mark_cells.proofs.drop_marks.Goals.{then-most-numbers, else-most-numbers}

step : (most j : ℕ) (numbers : List ℕ) → 1 ≤ j → drop_mark_of most j (drop_marks_of most (j - 1) numbers) ≡ drop_marks_of most (j + 1 - 1) numbers
unfolding drop_marks_of
step most zero numbers h = absurd (omega arith)
step most (suc k) numbers h =
    let before : suc k - 1 ≡ k = omega arith in
    let here : suc k + 1 - 1 ≡ suc k = omega arith in
    rw (before, here) refl

pub loop-j-init : goal.loop-j-init
unfolding drop_marks_of
loop-j-init c = refl

pub loop-j-preserved : goal.loop-j-preserved
loop-j-preserved c =
    let a = c.args in
    let l = c.loop-j in
    let passed = ap (drop_mark_of a.most l.j) l.invariant ∙ step a.most l.j a.numbers.now l.auto.j in
    elim c.if-most-numbers.branch [
      | then-most-numbers w ↦ w.numbers-is ∙ drop-taken a.most l.j l.numbers (omega (arith, w.if-most-numbers.true)) ∙ passed
      | else-most-numbers w ↦ w.numbers-is ∙ drop-left a.most l.j l.numbers (omega (arith, w.if-most-numbers.false)) ∙ passed
    ]

pub returns : goal.returns
returns c =
    let l = c.loop-j in
    let last : l.j - 1 ≡ max_tier = omega (arith, l.auto, c.loop-j-test.false) in
    l.invariant ∙ ap (λ (n : ℕ). drop_marks_of c.args.most n c.args.numbers.now) last
