-- A judgement's answer as cells: they are the figures of the definitions.
use mathlib.Core.Path.{◌≡◌}
use mathlib.Core.List.{List, []}
use Prim.Native.Nat.{ℕ}
use lib.Dec.{eqb}
use lib.IntN.{ℤ}
use Rattle.lists.specs.Sets.{set_of, count_of, lowest_of}
use Rattle.tariff.specs.declared.processes.Process.{Process}
use Rattle.test_rules.specs.TestBook.{pass_cells_of}
use Rattle.test_verdict.specs.Judged.{over_at, excess_at, judged_values, judged_cells}
use Rattle.test_verdict.proofs.Cells.{cells_by, values_by, pass_by, fail_by}

module _ (k : ℕ) (limits : List ℕ) (process : Process) (flows : List ℤ) where
  abbrev S : ℕ
  S = set_of k (over_at limits process flows)

  abbrev C : ℕ
  C = count_of k (over_at limits process flows)

  abbrev L : ℕ
  L = lowest_of k (over_at limits process flows)

  abbrev E : ℤ
  E = excess_at limits process flows L

  pub pass_cells : [] ≡ judged_values limits process flows k → pass_cells_of ≡ judged_cells limits process flows k
  unfolding judged_values judged_cells
  pass_cells e = pass_by S C L E (eqb S 0) e

  module _ (set count lowest : ℕ) (over : ℤ) (e : values_by set count lowest over ≡ judged_values limits process flows k) where
    pub fail_cells : cells_by set count lowest over ≡ judged_cells limits process flows k
    unfolding judged_values judged_cells
    fail_cells = fail_by S C L E set count lowest over (eqb S 0) e
