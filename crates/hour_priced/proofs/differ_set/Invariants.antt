-- The invariant of `hour_priced::differ_set`.
use Rattle.std.proofs.Common.{◌≡◌, ℕ, ◌+◌, ◌-◌, ◌*◌}
use Rattle.lists.specs.Sets.{set_of}
use Rattle.hour_priced.specs.Inner.{differ_at}
use Rattle.hour_priced.proofs.differ_set.Given as goal

abbrev pub invariant-loop-eight : goal.invariant-loop-eight
invariant-loop-eight l = l.set ≡ set_of (l.table.constraints - l.eight * 8) (λ (j : ℕ). differ_at l.table.cells.now l.source l.sink (l.eight * 8 + j))
