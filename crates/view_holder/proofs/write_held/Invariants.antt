-- The invariant of `view_holder::write_held`.
use mathlib.Core.Path.{◌≡◌}
use lib.ListN.{length}
use Rattle.lists.specs.Lent.{overwrite}
use Rattle.view_holder.specs.Inner.{rows_to}
use Rattle.view_holder.proofs.write_held.Given as goal

abbrev pub invariant-loop-i : goal.invariant-loop-i
invariant-loop-i l = (length l.view ≡ length l.initial.view) × (l.at ≡ length (rows_to l.contracts.form l.holder l.contracts.file.now l.i)) × (l.view ≡ overwrite (rows_to l.contracts.form l.holder l.contracts.file.now l.i) l.initial.view)
