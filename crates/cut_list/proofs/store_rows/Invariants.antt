-- The invariant of `cut_list::store_rows`.
use mathlib.Core.Path.{◌≡◌}
use Prim.Native.Nat.{ℕ, ◌/◌, ◌%◌}
use lib.ListN.{length, get_or, take, drop}
use Rattle.lists.specs.Lists.{list_to}
use Rattle.cut_list.proofs.store_rows.Given as goal

abbrev pub invariant-loop-i : goal.invariant-loop-i
invariant-loop-i l = (length l.numbers ≡ length l.initial.numbers) × (length l.cuts ≡ length l.initial.cuts)
    × (take l.i l.numbers ≡ take l.i (list_to (length l.keys) (λ (j : ℕ). get_or l.keys j 0 % 1024))) × (drop l.i l.numbers ≡ drop l.i l.initial.numbers)
    × (take l.i l.cuts ≡ take l.i (list_to (length l.keys) (λ (j : ℕ). get_or l.keys j 0 / 1024))) × (drop l.i l.cuts ≡ drop l.i l.initial.cuts)
