-- The invariant of `hour_priced::rest_differ`.
use Rattle.std.proofs.Common.{◌≡◌, ℕ, ◌+◌, ◌-◌, ◌*◌, ◌/◌, ◌≤◌}
use Rattle.lists.specs.Sets.{set_of}
use Rattle.hour_priced.specs.Inner.{differ_at}
use Rattle.hour_priced.proofs.rest_differ.Given as goal

abbrev pub invariant-loop-k : goal.invariant-loop-k
invariant-loop-k l = (l.table.constraints / 8 * 8 ≤ l.k) × (l.set ≡ set_of (l.table.constraints - l.k) (λ (j : ℕ). differ_at l.table.cells.now l.source l.sink (l.k + j)))
