-- The invariant of `hour_priced::posted_set`.
use Rattle.std.proofs.Common.{◌≡◌, Bool, List, ℕ, ◌+◌, ◌-◌, ltb, get_or}
use Rattle.lists.specs.Sets.{set_of}
use Rattle.hour_priced.proofs.posted_set.Given as goal

abbrev pub posted : List ℕ → ℕ → Bool
posted prices k = ltb 0 (get_or prices k 0)

abbrev pub invariant-loop-k : goal.invariant-loop-k
invariant-loop-k l = l.set ≡ set_of (l.constraints - l.k) (λ (j : ℕ). posted l.prices (l.k + j))
