-- The invariant of `view_holder::held_count`.
use mathlib.Core.Path.{◌≡◌}
use Prim.Native.Nat.{◌≤◌}
use lib.ListN.{length}
use Rattle.layouts.specs.BookFile.{contract_in}
use Rattle.view_rules.specs.Views.{held_to}
use Rattle.view_holder.proofs.held_count.Given as goal

abbrev pub invariant-loop-i : goal.invariant-loop-i
invariant-loop-i l = (l.held ≤ l.i) × (l.held ≡ length (held_to l.holder (contract_in l.contracts.form l.contracts.file.now) l.i))
