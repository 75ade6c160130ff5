-- The figures of flows judged by their limits, and that they are the test's where the flows are those of the contracts tested.
use mathlib.Core.Path.{◌≡◌, refl, sym, ap, subst, ◌∙◌}
use mathlib.Core.List.{List, [], ◌∷◌}
use Prim.Native.Nat.{ℕ, ◌*◌, ◌≤◌, ◌<◌}
use native.Mathlib.Nat.{pos_of_ne-zero}
use native.Mathlib.Decide.{ℕ_discrete}
use native.Mathlib.Omega.{arith}
use borrow.Author.Tests.{ne_eqb}
use lib.Count.{ones, count_trailing_zeros}
use lib.ListN.{get_or}
use lib.IntN.{ℤ, pos, ◌-ℤ◌}
use lib.Signed.{lt_z}
use Rattle.lists.specs.Sets.{set_of, count_of, lowest_of}
use Rattle.lists.proofs.Sets.{set-cong, set-ones, set-trailing, set-lowest}
use Rattle.tariff.specs.declared.contracts.Contract.{Contract}
use Rattle.tariff.specs.declared.contracts.Period.{Period}
use Rattle.tariff.specs.declared.processes.Process.{Process}
use Rattle.tariff.specs.declared.units.Flow.{Flow}
use Rattle.tariff.specs.Units.{factors_of, grid_of, max_constraints}
use Rattle.tariff.specs.ContractRules.{of_period}
use Rattle.tariff.specs.Processes.{percent}
use Rattle.tariff.specs.Refusals.{Outcome, given}
use Rattle.tariff.specs.Feasibility.{released}
use Rattle.tariff.proofs.Answers.{never_given}
use Rattle.test_rules.specs.declared.Flows.{Flows}
use Rattle.test_rules.specs.TestBook.{TestAnswer, pass, fail}
use Rattle.std.specs.Prelude.{Ok, Err}
use Rattle.test_rules.specs.TestBook.{test_outcome}
use Rattle.test_rules.specs.Inner.{Judges}
use Rattle.test_rules.specs.Carried.{Carries}
use Rattle.test_rules.proofs.Judging.{over, passed_told, pass_answer, fail_answer}
use Rattle.test_verdict.specs.Judged.{over_at, excess_at, judged_values}
use Rattle.test_rules.specs.declared.Verdict.TheVariants.{Pass, Fail}

module _ (k : ℕ) (limits : List ℕ) (process : Process) (flows : List ℤ) where
  abbrev S : ℕ
  S = set_of k (over_at limits process flows)

  abbrev L : ℕ
  L = lowest_of k (over_at limits process flows)

  abbrev full : List ℤ
  full = pos S ∷ pos (count_of k (over_at limits process flows)) ∷ pos L ∷ excess_at limits process flows L ∷ []

  pub values-empty : S ≡ 0 → judged_values limits process flows k ≡ []
  unfolding judged_values
  values-empty e = rw e

  pub values-full : (S ≡ 0 → ⊥) → judged_values limits process flows k ≡ full
  unfolding judged_values
  values-full ne = rw (ne_eqb S 0 ne)

  -- s is the set that the machine found
  module _ (s : ℕ) (found : s ≡ set_of k (over limits process flows)) where
    set_is : s ≡ S
    unfolding over_at released
    set_is = found

    pub empty_outcome : s ≡ 0 → test_outcome pass ≡ given (judged_values limits process flows k)
    empty_outcome z = ap given (sym (values-empty (sym set_is ∙ z)))

    module _ (few : k ≤ max_constraints) (ne : s ≡ 0 → ⊥) where
      count-is : ones s ≡ count_of k (over_at limits process flows)
      count-is = ap ones set_is ∙ set-ones k (over_at limits process flows)

      lowest-is : count_trailing_zeros 64 s ≡ L
      lowest-is = ap (count_trailing_zeros 64) set_is ∙ set-trailing k 64 (over_at limits process flows) few (rw set_is at (pos_of_ne-zero {n = s} ne))

      pub full_outcome : (o : Flow) → o.0 ≡ get_or flows (count_trailing_zeros 64 s) (pos 0) -ℤ pos (get_or limits (count_trailing_zeros 64 s) 0 * percent process * 1000)
          → test_outcome (fail s (ones s) (count_trailing_zeros 64 s) o) ≡ given (judged_values limits process flows k)
      unfolding excess_at released
      full_outcome o over-is =
          let e : o.0 ≡ excess_at limits process flows L = over-is ∙ ap (excess_at limits process flows) lowest-is in
          ap given ((λ i. pos (set_is i) ∷ pos (count-is i) ∷ pos (lowest-is i) ∷ e i ∷ []) ∙ sym (values-full (λ z. ne (set_is ∙ z))))

-- the figures depend on the first k flows alone
pub values_same : (k : ℕ) (limits : List ℕ) (process : Process) (xs ys : List ℤ) → ((j : ℕ) → j < k → get_or xs j (pos 0) ≡ get_or ys j (pos 0))
    → judged_values limits process xs k ≡ judged_values limits process ys k
unfolding over_at excess_at
values_same k limits process xs ys e =
    let f = over_at limits process xs in
    let h = over_at limits process ys in
    let sets : set_of k f ≡ set_of k h = set-cong k f h (λ j b. ap (lt_z (pos (released limits process j))) (e j b)) in
    elim (ℕ_discrete (set_of k f) 0) [
      | yes z ↦ values-empty k limits process xs z ∙ sym (values-empty k limits process ys (sym sets ∙ z))
      | no ne ↦
          let count : count_of k f ≡ count_of k h = sym (set-ones k f) ∙ ap ones sets ∙ set-ones k h in
          let some-bit = pos_of_ne-zero {n = set_of k f} ne in
          let low : lowest_of k f ≡ lowest_of k h = sym (set-trailing k k f (omega arith) some-bit) ∙ ap (count_trailing_zeros k) sets ∙ set-trailing k k h (omega arith) (rw (← sets) some-bit) in
          let over : excess_at limits process xs (lowest_of k f) ≡ excess_at limits process ys (lowest_of k h)
          = ap (λ (z : ℤ). z -ℤ pos (released limits process (lowest_of k f))) (e (lowest_of k f) (set-lowest k f some-bit).inside) ∙ ap (excess_at limits process ys) low in
          values-full k limits process xs ne ∙ (λ i. pos (sets i) ∷ pos (count i) ∷ pos (low i) ∷ over i ∷ []) ∙ sym (values-full k limits process ys (λ z. ne (sets ∙ z)))
    ]

-- ---- answers by their figures

pub nil_cons : (x : ℤ) (xs : List ℤ) → given [] ≡ given (x ∷ xs) → ⊥
nil_cons x xs e =
    let l : [] ≡ x ∷ xs = ap (λ (o : Outcome). o.values) e in
    let z : ◌≡◌ {A = ℕ} 0 1 = cc in
    omega arith

-- a fail's four figures
pub record SameFour (a b c : ℕ) (x : ℤ) (d e f : ℕ) (y : ℤ) : Type 0 where
  pub set_same : a ≡ d
  pub count_same : b ≡ e
  pub lowest-same : c ≡ f
  pub over-same : x ≡ y

pub same_four : (a b c : ℕ) (x : ℤ) (d e f : ℕ) (y : ℤ) → given (pos a ∷ pos b ∷ pos c ∷ x ∷ []) ≡ given (pos d ∷ pos e ∷ pos f ∷ y ∷ []) → SameFour a b c x d e f y
same_four a b c x d e f y h =
    let l : pos a ∷ pos b ∷ pos c ∷ x ∷ [] ≡ pos d ∷ pos e ∷ pos f ∷ y ∷ [] = ap (λ (o : Outcome). o.values) h in
    record { set_same = cc; count_same = cc; lowest-same = cc; over-same = cc }

-- the answer with these figures is the test's, where the flows are those of the contracts tested
module _ (n k : ℕ) (few : k ≤ max_constraints) (limits : List ℕ) (fs : List ℤ) (process : Process) (t : Period) (cs : List Contract) (f : Flows)
    (carried : Carries (factors_of n k fs) (of_period t cs) f) where
  abbrev s : ℕ
  s = set_of k (over limits process f.flows)

  abbrev Right : TestAnswer → Type 0
  Right a = Judges (grid_of n k limits fs) process (of_period t cs) a

  right-full : (a : TestAnswer) → (s ≡ 0 → ⊥) → test_outcome a ≡ given (full k limits process f.flows) → Right a
  unfolding over_at excess_at released
  right-full (Ok Pass) ne e = absurd (nil_cons _ _ e)
  right-full (Err r) ne e = absurd (never_given r _ e)
  right-full (Ok (Fail set count lowest o)) ne e =
      let same = same_four set count lowest o.0 _ _ _ _ e in
      let many = same.count_same ∙ sym (count-is k limits process f.flows s refl few ne) in
      let low = same.lowest-same ∙ sym (lowest-is k limits process f.flows s refl few ne) in
      let there = same.over-same ∙ ap (excess_at limits process f.flows) (sym (lowest-is k limits process f.flows s refl few ne)) in
      subst Right (λ i. fail (sym same.set_same i) (sym many i) (sym low i) o) (fail_answer n k limits fs process t cs f carried s refl few ne o there)

  pub judges : (a : TestAnswer) → test_outcome a ≡ given (judged_values limits process f.flows k) → Right a
  unfolding over_at released
  judges a told =
      elim (ℕ_discrete s 0) [
        | yes z ↦
            subst Right (sym (passed_told a (told ∙ ap given (values-empty k limits process f.flows z)))) (pass_answer n k limits fs process t cs f carried s refl z)
        | no ne ↦ right-full a ne (told ∙ ap given (values-full k limits process f.flows ne))
      ]
