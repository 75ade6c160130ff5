-- The invariant of `cut_keys::collect_keys`.
use mathlib.Core.Path.{◌≡◌}
use Prim.Native.Nat.{ℕ, ◌≤◌}
use lib.ListN.{length, take}
use Rattle.tariff.specs.Units.{max_contracts}
use Rattle.layouts.specs.BookFile.{contract_at}
use Rattle.cut_rules.specs.Inner.{keys_to}
use Rattle.cut_keys.specs.Inner.{own_cut_by}
use Rattle.cut_keys.proofs.collect_keys.Given as goal

abbrev pub invariant-loop-i : goal.invariant-loop-i
invariant-loop-i l = (l.count ≤ l.i) × (length l.keys ≡ max_contracts)
    × (take l.count l.keys ≡ keys_to (λ (j : ℕ). own_cut_by l.excesses (contract_at l.excesses.test.book.now j)) l.i)
