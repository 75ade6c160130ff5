-- The test's answer as cells: they are the figures of the definitions, and demand 3 holds of them.
use mathlib.Core.Path.{◌≡◌, refl, sym, ap, ◌∙◌}
use mathlib.Core.List.{List, [], ◌∷◌}
use Prim.Native.Nat.{ℕ}
use native.Mathlib.Omega.{arith}
use lib.Dec.{eqb}
use lib.IntN.{ℤ, pos}
use Rattle.tariff.specs.declared.contracts.Contract.{Contract}
use Rattle.tariff.specs.declared.units.Flow.{Flow}
use Rattle.tariff.specs.declared.processes.Process.{Process}
use Rattle.tariff.specs.Units.{Grid}
use Rattle.tariff.specs.Refusals.{Outcome}
use Rattle.tariff.specs.Feasibility.{excess, overload_set, overload_count, lowest_overload}
use Rattle.test_rules.specs.TestBook.{TestAnswer, pass, fail}
use Rattle.test_rules.specs.TestBook.{test_outcome, test_values, Demand3, pass_cells_of, test_cells, Demand3OfCells}
use Rattle.test_verdict.proofs.Cells.{cells_by, values_by, pass_by, fail_by, some_by}

module _ (g : Grid) (process : Process) (cs : List Contract) where
  abbrev S : ℕ
  S = overload_set g process cs

  abbrev C : ℕ
  C = overload_count g process cs

  abbrev L : ℕ
  L = lowest_overload g process cs

  abbrev E : ℤ
  E = excess g process cs L

  -- pass gives [], fail the figures: both are the cells of the definitions
  pub pass_cells : [] ≡ test_values g process cs → pass_cells_of ≡ test_cells g process cs
  unfolding test_values test_cells
  pass_cells e = pass_by S C L E (eqb S 0) e

  module _ (set count lowest : ℕ) (over : ℤ) (e : values_by set count lowest over ≡ test_values g process cs) where
    pub fail_cells : cells_by set count lowest over ≡ test_cells g process cs
    unfolding test_values test_cells
    fail_cells = fail_by S C L E set count lowest over (eqb S 0) e

    pub fail_set : set ≡ 0 → ⊥
    unfolding test_values
    fail_set = some_by S C L E set count lowest over (eqb S 0) refl e

  -- demand 3, carried from the answer to its cells
  pub pass_demand3 : (r : TestAnswer) → r ≡ pass → Demand3 g process cs r → Demand3OfCells g process cs 0 0 (pos 0)
  pass_demand3 r told d = record {
    empty_is_worst_zero = (λ z. d.pass_is_worst_zero.0 told, λ w. refl);
    named_is_of_the_grid = λ n. absurd (n refl);
    named_is_a_list = λ n. absurd (n refl);
    named_is_its_shortfall = λ n. absurd (n refl);
    named_is_above_zero = λ n. absurd (n refl);
  }

  not_pass : (set count lowest : ℕ) (over : Flow) → fail set count lowest over ≡ pass → ⊥
  not_pass set count lowest over e = let q : pos set ∷ pos count ∷ pos lowest ∷ over.0 ∷ [] ≡ [] = ap (λ (o : Outcome). o.values) (ap test_outcome e) in let z : ◌≡◌ {A = ℕ} 0 1 = cc in omega arith

  pub fail_demand3 : (r : TestAnswer) (set count lowest : ℕ) (over : Flow) → r ≡ fail set count lowest over → (set ≡ 0 → ⊥) → Demand3 g process cs r → Demand3OfCells g process cs set lowest over.0
  fail_demand3 r set count lowest over told some d = record {
    empty_is_worst_zero = (λ z. absurd (some z), λ w. absurd (not_pass set count lowest over (sym told ∙ d.pass_is_worst_zero.1 w)));
    named_is_of_the_grid = λ n. d.fail_is_of_the_grid set count lowest over told;
    named_is_a_list = λ n. d.fail_is_a_list set count lowest over told;
    named_is_its_shortfall = λ n. d.fail_is_its_shortfall set count lowest over told;
    named_is_above_zero = λ n. d.fail_is_above_zero set count lowest over told;
  }
