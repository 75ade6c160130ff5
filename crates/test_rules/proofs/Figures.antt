-- The figures of the test depend on the flows alone.
use mathlib.Core.Path.{◌≡◌, ap, fun_ext}
use mathlib.Core.Logic.{◌↔◌}
use mathlib.Core.Bool.{Bool}
use mathlib.Core.List.{List}
use Prim.Native.Nat.{ℕ}
use Rattle.lists.specs.Sets.{set_of, count_of, lowest_of}
use Rattle.tariff.specs.declared.contracts.Contract.{Contract}
use Rattle.tariff.specs.declared.processes.Process.{Process}
use Rattle.tariff.specs.Units.{Grid}
use Rattle.tariff.specs.Feasibility.{total_flow, Passes, excess, overloaded, overload_set, overload_count, lowest_overload}
use Rattle.test_rules.specs.TestBook.{test_values, test_cells}
use Rattle.test_rules.specs.Theorems.{SameTest}

module _ (g : Grid) (process : Process) (cs ds : List Contract) (e : (k : ℕ) → total_flow g.factors cs k ≡ total_flow g.factors ds k) where
  overloaded-same : overloaded g process cs ≡ overloaded g process ds
  unfolding overloaded
  overloaded-same = fun_ext (λ (k : ℕ). rw (e k))

  set_same : overload_set g process cs ≡ overload_set g process ds
  unfolding overload_set
  set_same = ap (λ (over : ℕ → Bool). set_of g.factors.constraints over) overloaded-same

  count_same : overload_count g process cs ≡ overload_count g process ds
  unfolding overload_count
  count_same = ap (λ (over : ℕ → Bool). count_of g.factors.constraints over) overloaded-same

  lowest-same : lowest_overload g process cs ≡ lowest_overload g process ds
  unfolding lowest_overload
  lowest-same = ap (λ (over : ℕ → Bool). lowest_of g.factors.constraints over) overloaded-same

  excess-same : (k : ℕ) → excess g process cs k ≡ excess g process ds k
  unfolding excess
  excess-same k = rw (e k)

  verdict_same : Passes g process cs ↔ Passes g process ds
  verdict_same = (λ h. record { within = λ k b. rw (← e k) (h.within k b) }, λ h. record { within = λ k b. rw (e k) (h.within k b) })

  figures-same : test_values g process cs ≡ test_values g process ds
  unfolding test_values
  figures-same = rw (set_same, count_same, lowest-same, excess-same (lowest_overload g process ds))

  pub same_test : SameTest g process cs ds
  same_test =
      record {
        flows-same = e;
        set_same = set_same;
        count_same = count_same;
        lowest-same = lowest-same;
        excess-same = excess-same;
        verdict_same = verdict_same;
        figures-same = figures-same;
      }

  -- and so are the cells for C
  pub same_cells : test_cells g process cs ≡ test_cells g process ds
  unfolding test_cells
  same_cells = rw (set_same, count_same, lowest-same, excess-same (lowest_overload g process ds))
