-- The invariant of `date_on_peak::hours_by_rule`.
use mathlib.Core.Path.{◌≡◌}
use Prim.Native.Nat.{suc, ◌≤◌}
use Rattle.lists.specs.Sets.{count_of}
use Rattle.date_rules.specs.Inner.{on_peak_by_days_of}
use Rattle.date_on_peak.proofs.hours_by_rule.Given as goal

abbrev pub invariant-loop-day : goal.invariant-loop-day
invariant-loop-day l = (l.count ≤ l.day) × (l.count ≡ count_of l.day (λ k. on_peak_by_days_of l.year l.month (suc k)))
