-- Laws of the test's answer: the overload set bit by bit, and what its figures are.
use mathlib.Core.Path.{◌≡◌, refl, sym, ap, ap₂, ◌∙◌}
use mathlib.Core.Bool.{Bool, true, false, cond}
use mathlib.Core.List.{List, [], ◌∷◌}
use Prim.Native.Nat.{ℕ, ◌*◌, ◌^◌, ◌≤◌, ◌<◌}
use native.Mathlib.Omega.{arith}
use native.Mathlib.Nat.{mul-le-mul, pos_of_ne-zero}
use borrow.Author.Tests.{ne_eqb}
use lib.Count.{ones, count_trailing_zeros}
use lib.Pow.{pow_mono}
use lib.ListN.{get_or}
use lib.Seq.{get_or-take}
use lib.IntN.{ℤ, pos, nat_abs, ◌-ℤ◌}
use lib.Signed.{lt_z}
use mir.Syntax.{w64}
use mir.Val.{to_z, of_z}
use Rattle.integers.proofs.Machine.{back}
use Rattle.tariff.proofs.Sizes.{percent-sized}
use Rattle.lists.proofs.Sets.{set-cong, set-lt, set-trailing, set-lowest}
use Rattle.tariff.proofs.Answers.{never_given}
use Rattle.tariff.proofs.Theorems.{pass_is_worst_zero, pass_is_empty_set, fail_names_lowest, count-is_ones, lowest-is_trailing}
use Rattle.tariff.specs.declared.contracts.Contract.{Contract}
use Rattle.tariff.specs.declared.units.Flow.{Flow}
use Rattle.tariff.specs.declared.contracts.Period.{Period}
use Rattle.tariff.specs.declared.processes.Process.{Process}
use Rattle.tariff.specs.Processes.{percent}
use Rattle.tariff.specs.Units.{Grid, factors_of, grid_of, max_constraints, max_limit}
use Rattle.tariff.specs.Inner.{max_released}
use Rattle.tariff.specs.ContractRules.{of_period}
use Rattle.tariff.specs.Refusals.{Outcome, given}
use Rattle.lists.specs.Sets.{set_of}
use Rattle.tariff.specs.Feasibility.{released, Passes, excess, overloaded, overload_set, overload_count, lowest_overload}
use Rattle.test_rules.specs.declared.Flows.{Flows}
use Rattle.test_rules.specs.TestBook.{TestAnswer, pass, fail}
use Rattle.std.specs.Ordering.{is_lt, int_cmp}
use Rattle.std.proofs.Common.{Less, Equal, Greater}
use Rattle.std.specs.Prelude.{Err, Ok}
use Rattle.test_rules.specs.declared.Verdict.TheVariants.{Pass, Fail}
use Rattle.test_rules.specs.TestBook.{test_outcome, test_values}
use Rattle.test_rules.specs.Inner.{Judges}
use Rattle.test_rules.specs.Carried.{Carries}

-- the comparison that the code makes
pub less-is : (x y : ℤ) → is_lt (int_cmp x y) ≡ lt_z x y
less-is x y = by (lt_z x y) (lt_z y x)
  where
    by : (a b : Bool) → is_lt (cond a Less (cond b Greater Equal)) ≡ a
    by true b = refl
    by false true = refl
    by false false = refl

-- no figures: a pass
pub passed_told : (a : TestAnswer) → test_outcome a ≡ given [] → a ≡ pass
passed_told (Ok Pass) e = refl
passed_told (Ok (Fail set count lowest over)) e =
    let none : pos set ∷ pos count ∷ pos lowest ∷ over.0 ∷ [] ≡ [] = ap (λ (o : Outcome). o.values) e in
    cc
passed_told (Err r) e = absurd (never_given r [] e)

-- whether the flow in cell k exceeds the released limit k
abbrev pub over : List ℕ → Process → List ℤ → ℕ → Bool
over limits process cells k = lt_z (pos (get_or limits k 0 * percent process * 1000)) (get_or cells k (pos 0))

pub released-small : (z : ℤ) (l : ℕ) (process : Process) → l ≤ max_limit → z ≡ pos (l * percent process * 1000) → nat_abs z ≤ max_released
released-small z l process h e = rw e (omega (arith, mul-le-mul h (percent-sized process)))

-- x is the flow that the machine keeps and z the released limit
pub over-is : (limits : List ℕ) (process : Process) (cells : List ℤ) (k : ℕ) (z : ℤ) (b : Bool) → nat_abs (get_or cells k (pos 0)) < 2 ^ 62 → z ≡ pos (get_or limits k 0 * percent process * 1000)
    → b ≡ lt_z z (to_z w64 (of_z w64 (get_or cells k (pos 0)))) → over limits process cells k ≡ b
over-is limits process cells k z b h e t = sym (t ∙ rw (e, back (get_or cells k (pos 0)) (omega arith)))

pub difference_is : (x y v : ℤ) (r : ℤ) → nat_abs x < 2 ^ 62 → y ≡ r → v ≡ to_z w64 (of_z w64 x) -ℤ y → v ≡ x -ℤ r
difference_is x y v r h e d = d ∙ rw (e, back x (omega arith))

-- ---- the lowest of a set that is not empty

pub set-small : (k s : ℕ) (f : ℕ → Bool) → s ≡ set_of k f → k ≤ max_constraints → s < 2 ^ 64
set-small k s f e few = let p : 2 ^ k ≤ 2 ^ 64 = pow_mono {i = k} {j = 64} few in omega (arith, set-lt k f)

module _ (k s : ℕ) (f : ℕ → Bool) (e : s ≡ set_of k f) (some-bit : s ≡ 0 → ⊥) (few : k ≤ max_constraints) where
  above_zero : 0 < set_of k f
  above_zero = rw e at (pos_of_ne-zero {n = s} some-bit)

  pub lowest-in : count_trailing_zeros 64 s < k
  lowest-in = rw (e, set-trailing k 64 f few above_zero) (set-lowest k f above_zero).inside

-- ---- the answer, where flows f are carried from the contracts tested

module _ (n k : ℕ) (ls : List ℕ) (fs : List ℤ) (process : Process) (t : Period) (cs : List Contract) (f : Flows)
    (carried : Carries (factors_of n k fs) (of_period t cs) f) (s : ℕ) (is : s ≡ set_of k (over ls process f.flows)) where
  abbrev g : Grid
  g = grid_of n k ls fs

  abbrev tested : List Contract
  tested = of_period t cs

  pub set_is : s ≡ overload_set g process tested
  unfolding overload_set overloaded released
  set_is = is ∙ set-cong k _ _ (λ j h. rw (get_or-take k ls j 0 h, carried.flows-are j h))

  pub pass_answer : s ≡ 0 → Judges g process tested pass
  unfolding test_values
  pass_answer z =
      let e : overload_set g process tested ≡ 0 = sym set_is ∙ z in
      record {
        figures = rw e;
        demand3 = record {
          pass_is_worst_zero = (λ p. (pass_is_worst_zero g process t cs).0 ((pass_is_empty_set g process t cs).1 e), λ w. refl);
          fail_is_of_the_grid = λ s' c' l' o' q. absurd (never q);
          fail_is_a_list = λ s' c' l' o' q. absurd (never q);
          fail_is_its_shortfall = λ s' c' l' o' q. absurd (never q);
          fail_is_above_zero = λ s' c' l' o' q. absurd (never q);
        };
      }
    where
      never : {s' c' l' : ℕ} {o' : Flow} → pass ≡ fail s' c' l' o' → ⊥
      never q = let z : ◌≡◌ {A = ℕ} 0 1 = cc in omega arith

  module _ (few : k ≤ max_constraints) (some-bit : s ≡ 0 → ⊥) (o : Flow)
      (excess-is : o.0 ≡ get_or f.flows (count_trailing_zeros 64 s) (pos 0) -ℤ pos (get_or ls (count_trailing_zeros 64 s) 0 * percent process * 1000)) where
    fails : Passes g process tested → ⊥
    fails p = some-bit (set_is ∙ (pass_is_empty_set g process t cs).0 p)

    count-is : ones s ≡ overload_count g process tested
    count-is = ap ones set_is ∙ count-is_ones g process t cs

    lowest-is : count_trailing_zeros 64 s ≡ lowest_overload g process tested
    lowest-is = ap (count_trailing_zeros 64) set_is ∙ lowest-is_trailing g process t cs few fails

    over-is_excess : o.0 ≡ excess g process tested (lowest_overload g process tested)
    unfolding excess released
    over-is_excess =
        let low = lowest-in k s (over ls process f.flows) is some-bit few in
        excess-is
        ∙ ap₂ (λ (z : ℤ) (l : ℕ). z -ℤ pos (l * percent process * 1000)) (carried.flows-are (count_trailing_zeros 64 s) low) (sym (get_or-take k ls (count_trailing_zeros 64 s) 0 low))
        ∙ ap (excess g process tested) lowest-is

    values-are : pos s ∷ pos (ones s) ∷ pos (count_trailing_zeros 64 s) ∷ o.0 ∷ [] ≡ test_values g process tested
    unfolding test_values
    values-are = rw (ne_eqb (overload_set g process tested) 0 (λ e. some-bit (set_is ∙ e)))
        (λ i. pos (set_is i) ∷ pos (count-is i) ∷ pos (lowest-is i) ∷ over-is_excess i ∷ [])

    pub fail_answer : Judges g process tested (fail s (ones s) (count_trailing_zeros 64 s) o)
    fail_answer = record {
      figures = ap given values-are;
      demand3 = record {
        pass_is_worst_zero = (λ q. absurd (never q), λ w. absurd (fails ((pass_is_worst_zero g process t cs).1 w)));
        fail_is_of_the_grid = λ s' c' l' o' q. rw (← same_lowest q) (fail_names_lowest g process t cs fails).0.inside;
        fail_is_a_list = λ s' c' l' o' q. rw (← same_lowest q) (fail_names_lowest g process t cs fails).1;
        fail_is_its_shortfall = λ s' c' l' o' q. rw (← same_lowest q) ((fail_names_lowest g process t cs fails).2 ∙ sym over-is_excess ∙ same_over q);
        fail_is_above_zero = λ s' c' l' o' q. rw (← same_over q, over-is_excess) (fail_names_lowest g process t cs fails).3;
      };
    }
      where
        never : fail s (ones s) (count_trailing_zeros 64 s) o ≡ pass → ⊥
        never q = let z : ◌≡◌ {A = ℕ} 0 1 = cc in omega arith

        same_lowest : {s' c' l' : ℕ} {o' : Flow} → fail s (ones s) (count_trailing_zeros 64 s) o ≡ fail s' c' l' o' → lowest_overload g process tested ≡ l'
        same_lowest {s'} {c'} {l'} {o'} q = let e : count_trailing_zeros 64 s ≡ l' = cc in sym lowest-is ∙ e

        same_over : {s' c' l' : ℕ} {o' : Flow} → fail s (ones s) (count_trailing_zeros 64 s) o ≡ fail s' c' l' o' → o.0 ≡ o'.0
        same_over {s'} {c'} {l'} {o'} q = let e : o ≡ o' = cc in ap (λ (x : Flow). x.0) e
