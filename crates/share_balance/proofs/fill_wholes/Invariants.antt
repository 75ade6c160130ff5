-- The invariant of `share_balance::fill_wholes`.
use mathlib.Core.Path.{◌≡◌}
use Prim.Native.Nat.{ℕ, ◌<◌}
use lib.ListN.{length, get_or}
use Rattle.largest_remainders.specs.Ranks.{add_to}
use Rattle.largest_remainders.specs.Shares.{whole, rest}
use Rattle.largest_remainders.specs.Inner.{remainder_key}
use Rattle.share_rules.specs.ShareBalance.{demand_of}
use Rattle.share_balance.proofs.fill_wholes.Given as goal

abbrev pub invariant-loop-i : goal.invariant-loop-i
invariant-loop-i l = (length l.wholes ≡ length l.initial.wholes)
    × (length l.keys ≡ length l.initial.keys)
    × (l.given ≡ add_to l.i (whole (length l.demands) (demand_of l.demands) l.size))
    × ((k : ℕ) → k < l.i → get_or l.wholes k 0 ≡ whole (length l.demands) (demand_of l.demands) l.size k)
    × ((k : ℕ) → k < l.i → get_or l.keys k 0 ≡ remainder_key (rest (length l.demands) (demand_of l.demands) l.size) 256 k)
