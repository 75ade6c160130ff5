-- What the checks that accept an operation say, one step of a run, and a whole run.
use mathlib.Core.Path.{◌≡◌, refl, ap, ◌∙◌}
use mathlib.Core.Bool.{false}
use mathlib.Core.List.{List, [], ◌∷◌, ◌++◌}
use mathlib.Core.Option
use mathlib.Core.Option.{some}
use Prim.Native.Nat.{ℕ, ◌+◌}
use native.Mathlib.Omega.{arith}
use borrow.Author.Tests.{ltb-false}
use lib.ListN.{length, get_or}
use Rattle.lists.specs.Lists.{Each}
use Rattle.tariff.specs.declared.contracts.Period.{Period}
use Rattle.tariff.specs.declared.processes.Process.{Process}
use Rattle.tariff.specs.Refusals.{Checked, passed}
use Rattle.std.specs.Prelude.{Ok, Err}
use Rattle.tariff.specs.Units.{Grid, max_holder}
use Rattle.tariff.specs.ContractRules.{of_period}
use Rattle.tariff.specs.Feasibility.{overload_set}
use Rattle.tariff.specs.Refusals.{first, decided}
use Rattle.tariff.proofs.Checks.{passed_cons, passed_append}
use Rattle.layouts.specs.BookTable.{row_from, row_at}
use Rattle.book_rules.specs.WriteBook.{row_checks}
use Rattle.tier_rules.specs.Tiers.{Tiers, with_award, marked, returned, Award, Reached}
use Rattle.tier_rules.specs.Checks.{tier_number, award_over, award_checks, add_checks, mark_checks, return_checks_of, is_unset}
use Rattle.tier_rules.specs.Runs.{Operation, adding, marking, returning, step, states}
use Rattle.tier_rules.proofs.States.{with_reached, marked-reached, returned-reached, marking-sets, returned-all}

-- a row that the book writer's checks accept
pub row-award : (n : ℕ) (award : List ℕ) → first (row_checks n award 0) ≡ passed → Award n (row_at award 0)
unfolding row_checks row_from
row-award n award e =
    let p = passed_cons _ _ (passed_cons _ _ e).1 in
    record { checks_pass = p.1; holder-few = ltb-false max_holder (get_or award 2 0) p.0 }

-- either side of a decision
pub decided-each : {A : Type 0} (P : A → Type 0) (checked : Checked) (a b : A) → P a → (checked ≡ passed → P b) → P (decided checked (λ r. a) b)
decided-each P (Ok _) a b x y = y refl
decided-each P (Err q) a b x y = x

module _ (g : Grid) (process : Process) (t : Period) where
  pub added-reached : (s : Tiers) → Reached g process t s → (award : List ℕ) → first (add_checks g process t s award) ≡ passed → Reached g process t (with_award (row_at award 0) s)
  unfolding award_checks
  added-reached s r award e =
      let p = passed_cons _ _ e in
      let q = passed_append (row_checks g.factors.nodes award 0) (award_over g process t s.awards (row_at award 0) ∷ []) p.1 in
      let over = overload_set g process (of_period t (s.awards ++ row_at award 0 ∷ [])) in
      with_reached g process t s r (row_at award 0) (row-award g.factors.nodes award q.0) (ltb-false 1000 (length s.awards + 1) p.0)
      (omega (arith, ltb-false 0 over (passed_cons _ _ q.1).0))

  pub step-reached : (s : Tiers) (op : Operation) → Reached g process t s → Reached g process t (step g process t s op)
  unfolding step
  step-reached s (adding award) r = decided-each (Reached g process t) (first (add_checks g process t s award)) s _ r (added-reached s r award)
  step-reached s (marking i) r = decided-each (Reached g process t) (first (mark_checks i)) s _ r (λ e. marked-reached g process t s r i)
  step-reached s (returning i) r =
      decided-each (Reached g process t) (first (return_checks_of i (is_unset (s.mark i)))) s _ r (λ e. returned-reached g process t s r (Option.get_or (s.mark i) 0))

  pub run_reached : (s : Tiers) (ops : List Operation) → Reached g process t s → Each (Reached g process t) (states g process t s ops)
  unfolding states
  run_reached s [] r = (r, tt)
  run_reached s (op ∷ ops) r = (r, run_reached (step g process t s op) ops (step-reached s op r))

  -- ---- marking a tier, then returning to it
  marks : (s : Tiers) (i : ℕ) → (tier_number i).fails ≡ false → step g process t s (marking i) ≡ marked i s
  unfolding step mark_checks first
  marks s i e = rw e

  returns : (s : Tiers) (i m : ℕ) → (tier_number i).fails ≡ false → s.mark i ≡ some m → step g process t s (returning i) ≡ returned m s
  unfolding step return_checks_of first
  returns s i m e h = rw (e, h)

  -- nothing but the mark has changed
  pub mark-then_return : (s : Tiers) → Reached g process t s → (i : ℕ) → (tier_number i).fails ≡ false → step g process t (step g process t s (marking i)) (returning i) ≡ marked i s
  mark-then_return s r i e =
      ap (λ (x : Tiers). step g process t x (returning i)) (marks s i e)
      ∙ returns (marked i s) i (length s.awards) e (marking-sets i s)
      ∙ returned-all g process t (marked i s) (marked-reached g process t s r i)
