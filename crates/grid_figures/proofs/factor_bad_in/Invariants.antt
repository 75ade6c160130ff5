-- The invariants and of `grid_figures::factor_bad_in`.
use mathlib.Core.Path.{◌≡◌}
use mathlib.Core.Bool.{false}
use mathlib.Core.List.{List}
use Prim.Native.Nat.{ℕ, ◌+◌, ◌-◌, ◌*◌, ◌≤◌}
use lib.ListN.{take}
use lib.IntN.{ℤ}
use Rattle.lists.specs.Lists.{any_of}
use Rattle.tariff.specs.Checks.{factor_bad_of}
use Rattle.layouts.specs.GridFile.{limit_width, factor_width, factors_from}
use Rattle.grid_figures.proofs.factor_bad_in.Given as goal

abbrev pub all : List ℕ → ℕ → ℕ → ℕ → List ℤ
all = factors_from

abbrev pub start : ℕ → ℕ → ℕ
start h k = h + limit_width * k

abbrev pub invariant-loop-constraint : goal.invariant-loop-constraint
invariant-loop-constraint l = (l.found ≡ false) × (l.at ≡ start l.grid.size.header l.grid.size.constraints + factor_width * (l.node * l.grid.size.constraints + l.constraint))
    × (any_of factor_bad_of (take (l.node * l.grid.size.constraints + l.constraint) (all l.grid.bytes.now l.grid.size.header l.grid.size.nodes l.grid.size.constraints)) ≡ false)

abbrev pub invariant-nodes : goal.invariant-nodes
invariant-nodes l = (l.found ≡ false) × (l.at ≡ start l.grid.size.header l.grid.size.constraints + factor_width * (l.node * l.grid.size.constraints))
    × (any_of factor_bad_of (take (l.node * l.grid.size.constraints) (all l.grid.bytes.now l.grid.size.header l.grid.size.nodes l.grid.size.constraints)) ≡ false)
