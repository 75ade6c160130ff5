-- Flows judged by their limits (document 01, "The rules"): the test's figures, of flows in cells. Definitions only.
use Rattle.std.specs.Prelude.{Bool, cond, List, [], ◌∷◌, ℕ, eqb, get_or, ℤ, pos, ◌-ℤ◌}
use Rattle.std.specs.Int.Signed.{lt_z}
use Rattle.lists.specs.Sets.{set_of, count_of, lowest_of}
use Rattle.tariff.specs.declared.processes.Process.{Process}
use Rattle.tariff.specs.Feasibility.{released}
use Rattle.test_rules.specs.TestBook.{TestCells, pass_cells_of}

module _ (limits : List ℕ) (process : Process) (flows : List ℤ) where
  -- a flow exceeds its released limit, and by how much
  unfoldable pub over_at : ℕ → Bool
  over_at j = lt_z (pos (released limits process j)) (get_or flows j (pos 0))

  unfoldable pub excess_at : ℕ → ℤ
  excess_at j = get_or flows j (pos 0) -ℤ pos (released limits process j)

  -- of k flows the set that exceed, how many, the lowest, and the excess there
  abbrev pub over_cells : ℕ → TestCells
  over_cells k = record { set = set_of k over_at; count = count_of k over_at; lowest = lowest_of k over_at; over = excess_at (lowest_of k over_at) }

  -- as figures: none where no flow exceeds its released limit
  unfoldable pub judged_values : ℕ → List ℤ
  judged_values k =
      cond (eqb (set_of k over_at) 0) [] (pos (set_of k over_at) ∷ pos (count_of k over_at) ∷ pos (lowest_of k over_at) ∷ excess_at (lowest_of k over_at) ∷ [])

  -- as cells: all 0 where none does
  unfoldable pub judged_cells : ℕ → TestCells
  judged_cells k = cond (eqb (set_of k over_at) 0) pass_cells_of (over_cells k)
