-- `released_percent`.
use mathlib.Core.Path.{◌≡◌, refl, sym, ap, ◌∙◌}
use mathlib.Core.List.{[], ◌∷◌}
use Prim.Native.Nat.{ℕ, ◌≤◌, ◌<◌}
use native.Mathlib.Omega.{arith}
use lib.IntN.{pos}
use borrow.Author.Tests.{lt-ltb, le-ltb}
use Rattle.std.specs.Prelude.{Err}
use Rattle.tariff.specs.Refusals.{passed}
use Rattle.tariff.specs.declared.refusals.Refusal.TheVariants.{ProcessNumber}
use Rattle.tariff.specs.Processes.{process_of, percent}
use Rattle.tariff.specs.Refusals.{given}
use Rattle.tariff.specs.Checks.{process_number}
use Rattle.tariff.proofs.Answers.{answer-refused, answer-passed}
use Rattle.tariff.proofs.Checks.{first-refuses, last-passes}
use Rattle.test_loading.specs.ReleasedPercent.{percent_checks, percent_checked}
use Rattle.test_loading.proofs.released_percent.Goals as goal

other : (p : ℕ) → 2 < p → Err ProcessNumber ≡ percent_checked p
unfolding percent_checks
other p h = sym (first-refuses (process_number p) [] (lt-ltb 2 p h))

one_of_three : (p : ℕ) → p ≤ 2 → passed ≡ percent_checked p
unfolding percent_checks
one_of_three p h = sym (last-passes (process_number p) (le-ltb 2 p h))

pub returns-then-process-gt2 : goal.returns-then-process-gt2
returns-then-process-gt2 c = let p = c.args.process in record { percent-given = answer-refused _ _ (other p (omega arith)) _ refl _ }

pub returns : goal.returns
returns c =
    let p = c.args.process in
    let share : c.percent.result ≡ percent (process_of p) = c.percent.ensures ∙ ap percent c.from.ensures in
    record { percent-given = ap (λ (x : ℕ). given (pos x ∷ [])) share ∙ answer-passed _ _ (one_of_three p (omega arith)) refl _ }
