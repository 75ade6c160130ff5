-- The invariant of `share_balance::fill_shares`.
use mathlib.Core.Path.{◌≡◌}
use lib.ListN.{length, take, drop}
use Rattle.share_rules.specs.ShareBalance.{shares_of}
use Rattle.share_balance.proofs.fill_shares.Given as goal

abbrev pub invariant-loop-i : goal.invariant-loop-i
invariant-loop-i l = (length l.shares ≡ length l.initial.shares) × (take l.i l.shares ≡ take l.i (shares_of l.balance l.demands)) × (drop l.i l.shares ≡ drop l.i l.initial.shares)
