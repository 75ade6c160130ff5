-- What judging a block's totals says of the whole's contracts, by the entry's answer and by the C function's figures.
use mathlib.Core.Path.{◌≡◌, refl, sym, ap, ap₂, ◌∙◌}
use mathlib.Core.Logic.{◌↔◌}
use mathlib.Core.Bool.{Bool, true, false, cond}
use mathlib.Core.List.{List, [], ◌∷◌}
use Prim.Native.Nat.{ℕ, ◌*◌, ◌<◌}
use native.Mathlib.Nat.{pos_of_ne-zero}
use native.Mathlib.Decide.{ℕ_discrete}
use native.Mathlib.Omega.{arith}
use borrow.Author.Tests.{ne_eqb}
use lib.ListN.{get_or}
use lib.IntN.{ℤ, pos, ◌-ℤ◌}
use lib.Signed.{◌≤ℤ◌, ◌<ℤ◌, lt_z, lt_z_yes, lt_z_no, clash_ℤ}
use Rattle.integers.proofs.Linear.{⊖of, ⊖s}
use Rattle.lists.specs.Lent.{before, after}
use Rattle.lists.specs.Sets.{set_of, count_of, lowest_of, Lowest}
use Rattle.lists.proofs.Sets.{set-lowest, set-empty}
use Rattle.tariff.specs.declared.contracts.Contract.{Contract}
use Rattle.tariff.specs.declared.processes.Process.{Process}
use Rattle.tariff.specs.declared.units.Flow.{Flow}
use Rattle.tariff.specs.Refusals.{Checked, passed}
use Rattle.std.specs.Prelude.{Ok, Err}
use Rattle.tariff.specs.Units.{Grid, limit}
use Rattle.tariff.specs.Processes.{percent, process_of}
use Rattle.tariff.specs.Refusals.{given, answered}
use Rattle.tariff.specs.Feasibility.{released, excess}
use Rattle.tariff.proofs.Answers.{figure-is}
use Rattle.test_rules.specs.TestBook.{TestAnswer, pass}
use Rattle.test_rules.specs.TestBook.{test_outcome, TestCells, pass_cells_of}
use Rattle.test_rules.proofs.Judging.{passed_told}
use Rattle.test_verdict.specs.Judged.{over_at, excess_at, over_cells, judged_values, judged_cells}
use Rattle.test_verdict.proofs.Judging.{values-empty, values-full, nil_cons, same_four}
use Rattle.test_totals.specs.JudgeFlows.{JudgeCall, judge_call, judge_checked, judged_figures}
use Rattle.slice_rules.specs.Slices.{Block}
use Rattle.slice_rules.specs.Totals.{Totals, BlockPasses}
use Rattle.slice_calls.specs.Calls.{Judged, IsPass, Names, IsFail}

-- a flow within its released limit is not over it
within-not_over : (a b : ℤ) → b ≤ℤ a → lt_z a b ≡ false
within-not_over a b h = by (lt_z a b) refl
  where
    by : (x : Bool) → lt_z a b ≡ x → x ≡ false
    by true e = clash_ℤ {a = a} {b = b} (lt_z_yes (rw e tt)) h
    by false e = refl

less : (a b : ℤ) → a <ℤ b → pos 0 <ℤ (b -ℤ a)
less a b = rw (⊖of a, ⊖of b) (simp ⊖s (omega arith))

-- a pass is that no flow on the block exceeds, and a fail names a constraint of the block with its excess, above 0
pub record BlockSaid (g : Grid) (process : Process) (cs : List Contract) (b : Block) (pass : Type 0) (fail : ℕ → ℤ → Type 0) : Type 0 where
  pub pass_is_within : pass ↔ BlockPasses g process cs b
  pub fail_is_inside : (at : ℕ) (over : ℤ) → fail at over → at < b.size
  pub fail_is_its_excess : (at : ℕ) (over : ℤ) → fail at over → excess g process cs (b.number at) ≡ over
  pub fail_is_above_zero : (at : ℕ) (over : ℤ) → fail at over → pos 0 <ℤ over

module _ (g : Grid) (b : Block) (limits : List ℕ) (own : (j : ℕ) → j < b.size → limit limits j ≡ limit g.limits (b.number j))
    (process : Process) (cs : List Contract) (flows : List ℤ) (count : ℕ) (totals : Totals g.factors b cs flows count) where
  abbrev k : ℕ
  k = b.size

  abbrev f : ℕ → Bool
  f = over_at limits process flows

  abbrev L : ℕ
  L = lowest_of k f

  released-same : (j : ℕ) → j < k → released limits process j ≡ released g.limits process (b.number j)
  unfolding released
  released-same j h = ap (λ (l : ℕ). l * percent process * 1000) (own j h)

  -- the set is empty exactly when the block passes
  empty→passes : set_of k f ≡ 0 → BlockPasses g process cs b
  unfolding over_at
  empty→passes z =
      record {
        within = λ j h.
            rw (← totals.flows-are j h, ← released-same j h)
            (lt_z_no {a = pos (released limits process j)} {b = get_or flows j (pos 0)} (rw ((set-empty k f).0 z j h) tt));
      }

  passes→empty : BlockPasses g process cs b → set_of k f ≡ 0
  unfolding over_at
  passes→empty p =
      (set-empty k f).1
      (λ j h. within-not_over (pos (released limits process j)) (get_or flows j (pos 0)) (rw (totals.flows-are j h, released-same j h) (p.within j h)))

  -- else its lowest is named
  module _ (ne : set_of k f ≡ 0 → ⊥) where
    first-over : Lowest k f L
    first-over = set-lowest k f (pos_of_ne-zero {n = set_of k f} ne)

    at-excess : excess g process cs (b.number L) ≡ excess_at limits process flows L
    unfolding excess_at excess
    at-excess = sym (ap₂ (λ (x : ℤ) (l : ℕ). x -ℤ pos l) (totals.flows-are L first-over.inside) (released-same L first-over.inside))

    above_zero : pos 0 <ℤ excess_at limits process flows L
    unfolding over_at excess_at
    above_zero = less (pos (released limits process L)) (get_or flows L (pos 0)) (lt_z_yes (rw first-over.holds tt))

  -- what names that constraint with that excess is right
  said : (pass : Type 0) (fail : ℕ → ℤ → Type 0) → (pass ↔ (set_of k f ≡ 0))
      → ((at : ℕ) (over : ℤ) → fail at over → (set_of k f ≡ 0 → ⊥) × (at ≡ L) × (over ≡ excess_at limits process flows L)) → BlockSaid g process cs b pass fail
  said pass fail empty named =
      record {
        pass_is_within = (λ p. empty→passes (empty.0 p), λ w. empty.1 (passes→empty w));
        fail_is_inside = λ at over h. let n = named at over h in rw n.1 (first-over n.0).inside;
        fail_is_its_excess = λ at over h. let n = named at over h in ap (λ (j : ℕ). excess g process cs (b.number j)) n.1 ∙ at-excess n.0 ∙ sym n.2;
        fail_is_above_zero = λ at over h. let n = named at over h in rw n.2 (above_zero n.0);
      }

  -- ---- the entry's answer
  module _ (answer : TestAnswer) (figures : test_outcome answer ≡ given (judged_values limits process flows k)) where
    pass_empty : (answer ≡ pass) ↔ (set_of k f ≡ 0)
    pass_empty = (
      λ e.
          elim (ℕ_discrete (set_of k f) 0) [
            | yes z ↦ z
            | no ne ↦ absurd (nil_cons _ _ (ap test_outcome (sym e) ∙ figures ∙ ap given (values-full k limits process flows ne)))
          ],
      λ z. passed_told answer (figures ∙ ap given (values-empty k limits process flows z)),
    )

    fail_named : (at : ℕ) (over : ℤ) → Names answer at over → (set_of k f ≡ 0 → ⊥) × (at ≡ L) × (over ≡ excess_at limits process flows L)
    fail_named at over n =
        let told = ap test_outcome (sym n.is-fail) ∙ figures in
        let some : set_of k f ≡ 0 → ⊥ = λ z. nil_cons _ _ (sym (told ∙ ap given (values-empty k limits process flows z))) in
        let same = same_four n.set n.count at n.excess.0 _ _ _ _ (told ∙ ap given (values-full k limits process flows some)) in
        (some, same.lowest-same, sym n.excess-is ∙ same.over-same)

    pub answer-said : BlockSaid g process cs b (answer ≡ pass) (Names answer)
    answer-said = said (answer ≡ pass) (Names answer) pass_empty fail_named

  -- ---- the C function's figures
  module _ (set lowest : ℕ) (over : ℤ) (sets : set ≡ (judged_cells limits process flows k).set) (lows : lowest ≡ (judged_cells limits process flows k).lowest)
      (overs : over ≡ (judged_cells limits process flows k).over) where
    cells-empty : set_of k f ≡ 0 → judged_cells limits process flows k ≡ pass_cells_of
    unfolding judged_cells
    cells-empty z = rw z

    cells-full : (set_of k f ≡ 0 → ⊥) → judged_cells limits process flows k ≡ over_cells limits process flows k
    unfolding judged_cells
    cells-full ne = rw (ne_eqb (set_of k f) 0 ne)

    set_is : set ≡ set_of k f
    set_is =
        elim (ℕ_discrete (set_of k f) 0) [
          | yes z ↦ sets ∙ ap (λ (t : TestCells). t.set) (cells-empty z) ∙ sym z
          | no ne ↦ sets ∙ ap (λ (t : TestCells). t.set) (cells-full ne)
        ]

    cells-named : (at : ℕ) (x : ℤ) → (set ≡ 0 → ⊥) × (lowest ≡ at) × (over ≡ x) → (set_of k f ≡ 0 → ⊥) × (at ≡ L) × (x ≡ excess_at limits process flows L)
    cells-named at x n =
        let some : set_of k f ≡ 0 → ⊥ = λ z. n.0 (set_is ∙ z) in
        (some, sym n.1 ∙ lows ∙ ap (λ (t : TestCells). t.lowest) (cells-full some), sym n.2 ∙ overs ∙ ap (λ (t : TestCells). t.over) (cells-full some))

    pub cells-said : BlockSaid g process cs b (set ≡ 0) (λ at x. (set ≡ 0 → ⊥) × (lowest ≡ at) × (over ≡ x))
    cells-said = said (set ≡ 0) (λ at x. (set ≡ 0 → ⊥) × (lowest ≡ at) × (over ≡ x)) (λ e. sym set_is ∙ e, λ z. set_is ∙ z) cells-named

-- what was answered, by either
pub judged_said : (g : Grid) (b : Block) (limits : List ℕ) → ((j : ℕ) → j < b.size → limit limits j ≡ limit g.limits (b.number j))
    → (process : ℕ) (cs : List Contract) (flows : List ℤ) (count : ℕ) → Totals g.factors b cs flows count
    → judge_checked (judge_call b.size process limits flows count) ≡ passed
    → (j : Judged (judge_call b.size process limits flows count)) → BlockSaid g (process_of process) cs b (IsPass j) (IsFail j)
judged_said g b limits own process cs flows count totals told (Judged.by_entry answer judges) =
    let by = process_of process in
    answer-said g b limits own by cs flows count totals answer (judges.figures ∙ ap (λ (x : Checked). answered x (judged_values limits by flows b.size)) told)
judged_said g b limits own process cs flows count totals told (Judged.by_crr number set many lowest excess judges) =
    let q = judge_call b.size process limits flows count in
    let is = judged_figures q in
    cells-said g b limits own (process_of process) cs flows count totals (after set) (after lowest) (after excess)
    (figure-is (judge_checked q) told is.set (before set) (after set) judges.set_given)
    (figure-is (judge_checked q) told is.lowest (before lowest) (after lowest) judges.lowest-given)
    (figure-is (judge_checked q) told is.over (before excess) (after excess) judges.excess-given)
